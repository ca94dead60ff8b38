use Rattle.std.proofs.Common.{◌≡◌, Some, ap, ◌∙◌, subst, sym}
use Rattle.engine_state.specs.Journal.{replay}
use Rattle.loader_gate.specs.Outcomes.{IsTrueOf}
use Rattle.session_run.specs.Desks.{job_of}
use Rattle.session_run.proofs.Arrivals.{IsOut, delivered_desk, delivered_none, out_alone}
use Rattle.session_run.proofs.desk.CoreDeskJobDesk.deliver.Goals as goal

pub invariant_of-self : goal.invariant_of-self
invariant_of-self g c =
    let old = c.self.inside.core in
    let out : IsOut c.args.job (replay old.journal).flying =
    out_alone c.args.job _
    (ap (λ d. job_of (replay d.engine.journal).flying) c.self.view_is ∙ c.requires.job_out)
    c.self.invariant.served.flights in
    delivered_desk c.arrive.result _ old c.arrive.new.self c.args.job c.args.outcome _ _ _ _ _
    c.self.invariant out c.requires.within
    (subst (λ l. IsTrueOf l c.args.job c.args.outcome) (sym (ap (λ d. d.library) c.self.view_is))
    c.requires.is_true)
    c.arrive.ensures.journal c.arrive.ensures.err c.arrive.ensures.room

pub returns-clause-delivered : goal.returns-clause-delivered
returns-clause-delivered g c =
    let old = c.self.inside.core in
    let out : IsOut c.args.job (replay old.journal).flying =
    out_alone c.args.job _
    (ap (λ d. job_of (replay d.engine.journal).flying) c.self.view_is ∙ c.requires.job_out)
    c.self.invariant.served.flights in
    delivered_none c.arrive.result c.args.self.now.library old.journal c.arrive.new.self.journal
    c.args.job c.args.outcome out c.requires.within c.requires.is_true c.arrive.ensures.journal
