use Rattle.std.proofs.Common.{[], ◌∙◌, ap, subst}
use Rattle.std.proofs.lemmas.List.{append-nil}
use Rattle.engine_state.specs.Journal.{legal, replay}
use Rattle.engine_state.specs.Laws.{AreNumbered}
use Rattle.session_run.proofs.desk.CoreDesk.frames_are_numbered.Goals as goal

pub returns : goal.returns
returns g c =
    let j = c.self.inside.core.journal in
    subst (λ d. AreNumbered (replay d.engine.journal)) c.self.view_is
    (c.held_frames_are_numbered.ensures j [] (ap legal (append-nil j) ∙ c.journal.ensures.legal))
