use Rattle.std.proofs.Common.{◌≡◌, [], fold, take}
use Rattle.std.specs.List.{flat_map}
use Rattle.cut_core.specs.Noted.{wants_noted}
use Rattle.cut_core.specs.WantMap.{wants_in}
use Rattle.cut_core.specs.Wants.{with_want}
use Rattle.cut_core.proofs.wants.wants_of_visits.Given as goal

-- the wants of the visits before this one were added
abbrev pub invariant-loop-visit : goal.invariant-loop-visit
invariant-loop-visit g l =
    let holdings = g.H.Holdings.holdings l.context.holdings.now in
    let noted = wants_noted (g.T.TileTree.standing l.tree) l.context.view.now holdings in
    wants_in l.wants ≡ fold with_want [] (flat_map noted (take l.visit-index l.visits))
