use Rattle.std.proofs.Common.{◌≡◌, [], take, map}
use Rattle.std.specs.Prelude.{if◌then◌else◌}
use Rattle.std.specs.List.{flat_map}
use Rattle.cut_core.specs.Cut.{own_contents}
use Rattle.cut_core.specs.Visits.{content_key}
use Rattle.cut_core.proofs.keeps.keys_kept.Given as goal

-- the keys of the visits before this one were added
abbrev pub invariant-loop-visit : goal.invariant-loop-visit
invariant-loop-visit g l =
    let holdings = g.H.Holdings.holdings l.holdings in
    let s = g.T.TileTree.standing l.tree in
    l.keys ≡ map content_key (flat_map (λ v. if v.kept then own_contents holdings
    (s.node_tree v.node) else []) (take l.visit-index l.visits))
