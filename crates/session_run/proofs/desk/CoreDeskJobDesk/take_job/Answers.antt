use Rattle.std.proofs.Common.{◌≡◌, [], ap, ◌∙◌}
use Rattle.engine_state.specs.Journal.{replay}
use Rattle.session_run.specs.Desks.{job_of}
use Rattle.session_run.proofs.Loads.{none_flies, taken_desk, taken_is_out}
use Rattle.session_run.proofs.desk.CoreDeskJobDesk.take_job.Goals as goal

pub invariant_of-self : goal.invariant_of-self
invariant_of-self g c =
    let old = c.self.inside.core in
    let none : (replay old.journal).flying ≡ [] =
    none_flies _ (ap (λ d. job_of (replay d.engine.journal).flying) c.self.view_is ∙ c.requires) in
    taken_desk _ old c.take.new.self c.in-Ok.job _ _ _ _ _ c.self.invariant none
    c.in-Ok.ensures.job c.in-Ok.ensures.journal c.take.ensures.room

pub returns-in-Ok-clause-job_out : goal.returns-in-Ok-clause-job_out
returns-in-Ok-clause-job_out g c =
    let old = c.self.inside.core in
    let none : (replay old.journal).flying ≡ [] =
    none_flies _ (ap (λ d. job_of (replay d.engine.journal).flying) c.self.view_is ∙ c.requires) in
    taken_is_out old c.take.new.self c.in-Ok.job none c.in-Ok.ensures.job c.in-Ok.ensures.journal
