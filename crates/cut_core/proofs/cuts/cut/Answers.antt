use Rattle.std.proofs.Common.{◌≡◌, ◌∙◌}
use Rattle.std.proofs.lemmas.Result.{IfOk-weaker}
use Rattle.cut_core.specs.Cut.{cut, ideal}
use Rattle.cut_core.specs.Laws.{HasIdeal, IsLoaded}
use Rattle.cut_core.proofs.Covering.{root_shows_at_places, root_shows_none_below, each_covers_ideal}
use Rattle.cut_core.proofs.Settling.{cut_is_ideal}
use Rattle.cut_core.proofs.cuts.cut.Goals as goal

pub returns-clause-places : goal.returns-clause-places
returns-clause-places g c = root_shows_at_places c.args.view.now
    (g.H.Holdings.holdings c.args.holdings.now) _

pub returns-clause-alone : goal.returns-clause-alone
returns-clause-alone g c = root_shows_none_below c.args.view.now
    (g.H.Holdings.holdings c.args.holdings.now) _

pub returns-clause-covers : goal.returns-clause-covers
returns-clause-covers g c = each_covers_ideal c.args.view.now
    (g.H.Holdings.holdings c.args.holdings.now) _

pub returns-clause-settles : goal.returns-clause-settles
returns-clause-settles g c =
    let view = c.args.view.now in
    let holdings = g.H.Holdings.holdings c.args.holdings.now in
    let root = (g.T.TileTree.standing c.args.tree.now).tree in
    IfOk-weaker _ (λ lines. lines ≡ cut view holdings root) (λ lines. IsLoaded view root
    → HasIdeal view holdings root → lines ≡ ideal view holdings root)
    (λ lines is loaded there. is ∙ cut_is_ideal view holdings root loaded there)
    c.walked_lines.ensures.lines
