use Rattle.session_run.proofs.Loaded.{loaded_session}
use Rattle.session_run.proofs.session.Session.load_all.Goals as goal

pub invariant_of-self : goal.invariant_of-self
invariant_of-self g c =
    loaded_session c.self.inside.desk.engine.journal c.load_all.new.self.engine.journal
    c.self.inside.frames.items c.self.invariant c.load_all.ensures.loads
    c.load_all.ensures.none_flies
