use Rattle.std.proofs.Common.{◌≡◌, ◌++◌, take, map}
use Rattle.expanded_tree.specs.Tree.{addresses_of, name_of}
use Rattle.cut_core.proofs.Owns.{present}
use Rattle.cut_core.proofs.cuts.push_lines.Given as goal

-- the lines of the contents before the i-th were added
abbrev pub invariant-loop-i : goal.invariant-loop-i
invariant-loop-i g l =
    let holdings = g.H.Holdings.holdings l.holdings in
    let here = (g.T.TileTree.standing l.tree).node_tree l.node in
    l.lines.items ≡ l.fn.lines.items ++ map (λ a. record { tile = name_of here; address = a })
    (present holdings (take l.i (addresses_of here)))
