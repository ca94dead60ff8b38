use Rattle.std.proofs.Common.{ap, ◌∙◌, subst}
use Rattle.engine_state.specs.Agreement.{Agrees}
use Rattle.session_run.proofs.Served.{closed_agrees}
use Rattle.session_run.proofs.desk.CoreDesk.close.Goals as goal

pub returns-clause-agrees : goal.returns-clause-agrees
returns-clause-agrees g c =
    subst (λ library. Agrees library c.finish.result) (ap (λ d. d.library) c.self.view_is)
    (closed_agrees _ c.self.inside.core c.finish.result 0 c.self.invariant.served
    (c.finish.ensures.journal ∙ c.close.ensures.journal))
