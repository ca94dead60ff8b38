use Rattle.std.proofs.Common.{◌≡◌, ◌++◌, take, map}
use Rattle.expanded_tree.specs.Tree.{addresses_of}
use Rattle.cut_core.specs.Visits.{content_key}
use Rattle.cut_core.proofs.Owns.{present}
use Rattle.cut_core.proofs.keeps.push_own.Given as goal

-- the keys of the contents before the i-th were added
abbrev pub invariant-loop-i : goal.invariant-loop-i
invariant-loop-i g l =
    let holdings = g.H.Holdings.holdings l.holdings in
    let here = (g.T.TileTree.standing l.tree).node_tree l.node in
    l.keys ≡ l.fn.keys ++ map content_key (present holdings (take l.i (addresses_of here)))
