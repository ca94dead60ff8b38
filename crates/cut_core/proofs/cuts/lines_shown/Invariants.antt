use Rattle.std.proofs.Common.{◌≡◌, take}
use Rattle.std.specs.List.{flat_map}
use Rattle.cut_core.specs.Cut.{lines_of}
use Rattle.cut_core.proofs.cuts.lines_shown.Given as goal

-- the lines of the nodes before this one were added
abbrev pub invariant-loop-node : goal.invariant-loop-node
invariant-loop-node g l =
    let holdings = g.H.Holdings.holdings l.holdings in
    let s = g.T.TileTree.standing l.tree in
    l.lines.items ≡ flat_map (λ n. lines_of holdings (s.node_tree n)) (take l.node-index l.shown)
