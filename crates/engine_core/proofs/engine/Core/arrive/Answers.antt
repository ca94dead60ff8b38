use Rattle.std.specs.Prelude.{OnOk}
use Rattle.std.proofs.Common.{◌≡◌, [], ◌∷◌, ◌++◌, ap, subst, sym}
use Rattle.engine_state.specs.Journal.{replay}
use Rattle.engine_core.specs.Arriving.{entry_of}
use Rattle.engine_core.proofs.Afterwards.{came}
use Rattle.engine_core.proofs.engine.Core.arrive.Goals as goal

pub returns-in-Got-clause-journal : goal.returns-in-Got-clause-journal
returns-in-Got-clause-journal c =
    let arrived = c.arrive_bytes-arrived in
    let new = arrived.new.self.entries.items in
    came arrived.result c.hand_back.result _ c.hand_back.ensures.arrived.0
    (subst (λ old. OnOk arrived.result (new ≡ old
    ++ entry_of (replay old) c.args.pass c.args.job.key c.args.outcome ∷ []))
    (ap (λ e. e.journal) c.self.view_is)
    (subst (λ outcome. OnOk arrived.result (new ≡ c.self.inside.parts.entries.items
    ++ entry_of (replay c.self.inside.parts.entries.items) c.args.pass c.args.job.key outcome ∷ []))
    (sym c.in-Got.is) arrived.ensures.journal))
