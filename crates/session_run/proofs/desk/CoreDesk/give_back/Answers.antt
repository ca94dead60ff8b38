use Rattle.std.proofs.Common.{◌∙◌, ap}
use Rattle.session_run.proofs.Served.{returned_serves, paused_desk}
use Rattle.session_run.proofs.desk.CoreDesk.give_back.Goals as goal

pub invariant_of-self : goal.invariant_of-self
invariant_of-self g c =
    let is = c.self.view_is in
    let paused = c.pause.ensures in
    paused_desk _ _ _ _ _ _ _ (ap (λ d. d.begun) is ∙ paused.begun)
    (ap (λ d. d.jobs) is ∙ paused.jobs) (ap (λ d. d.idle) is ∙ paused.idle)
    (ap (λ d. d.ended) is ∙ paused.ended) (ap (λ d. d.stop) is ∙ paused.stop)
    (returned_serves _ c.self.inside.core c.give_back.new.self c.self.invariant.served
    0 _ c.give_back.ensures.journal)
