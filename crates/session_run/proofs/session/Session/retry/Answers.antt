use Rattle.session_run.proofs.Holding.{retried_session}
use Rattle.session_run.proofs.session.Session.retry.Goals as goal

pub invariant_of-self : goal.invariant_of-self
invariant_of-self g c =
    retried_session c.retry.result c.self.inside.desk.engine c.retry.new.self.engine
    c.self.inside.frames.items c.self.invariant c.retry.ensures.journal c.retry.ensures.err
