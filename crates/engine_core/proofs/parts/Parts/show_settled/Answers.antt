use Rattle.std.proofs.Common.{sym, ap, ◌∙◌}
use Rattle.engine_state.specs.Journal.{replay}
use Rattle.engine_core.specs.Looking.{latest_in}
use Rattle.engine_core.proofs.NoneLeft.{latest_is}
use Rattle.engine_core.proofs.parts.Parts.show_settled.Goals as goal

pub show-requires-clause-ask : goal.show-requires-clause-ask
show-requires-clause-ask c =
    latest_is c.same_views_are_equal.ensures (replay c.left_to_load.new.self.entries.items).views
    c.args.viewer c.in-Some.view
    (ap (λ entries. latest_in (replay entries).views c.args.viewer)
    c.left_to_load.ensures.same.entries
    ∙ ap (λ views. latest_in views c.args.viewer) (sym c.requires.lives.mirrors.views)
    ∙ ap (λ views. latest_in views c.args.viewer) (sym c.deref.ensures.value)
    ∙ sym c.latest_view.ensures ∙ c.in-Some.is)
