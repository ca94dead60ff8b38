use Rattle.std.proofs.Common.{◌≡◌, filter, fold, map, take}
use Rattle.expanded_tree.specs.Tree.{addresses_of}
use Rattle.cut_core.specs.Visits.{content_key}
use Rattle.cut_core.specs.WantMap.{wants_in}
use Rattle.cut_core.specs.Wants.{is_missing, want_with, with_want}
use Rattle.cut_core.proofs.wants.put_missing.Given as goal

-- the wants of the contents before the i-th were added
abbrev pub invariant-loop-i : goal.invariant-loop-i
invariant-loop-i g l =
    let holdings = g.H.Holdings.holdings l.context.holdings.now in
    let here = (g.T.TileTree.standing l.tree).node_tree l.node in
    let missing = filter (is_missing holdings) (take l.i (addresses_of here)) in
    wants_in l.wants ≡ fold with_want (wants_in l.fn.wants)
    (map (want_with l.facts) (map content_key missing))
