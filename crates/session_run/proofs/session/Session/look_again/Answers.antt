use Rattle.std.proofs.Common.{◌++◌, ◌∷◌, [], ◌∙◌, ap, subst}
use Rattle.session_run.specs.Sessions.{AreReported}
use Rattle.session_run.proofs.Holding.{looked_session, refused_session}
use Rattle.session_run.proofs.Texts.{next_reported, refused_reported}
use Rattle.session_run.proofs.session.Session.look_again.Goals as goal

pub invariant_of-self-in_err-hold-in-Ok : goal.invariant_of-self-in_err-hold-in-Ok
invariant_of-self-in_err-hold-in-Ok g c =
    let old = c.self.inside.desk.engine.journal in
    let new = c.look_settled.new.self.engine.journal in
    looked_session old new c.args.viewer c.in-Ok.frame.view _ c.in-Ok.frame c.self.inside.frames.items
    c.hold.new.frames.items c.self.invariant c.in-Ok.ensures.frame.next c.in-Ok.ensures.journal
    (c.hold.ensures.held
    ∙ ap (λ items. items ++ record { frame = c.in-Ok.frame } ∷ []) c.in_ok-reserve.ensures.items)

pub invariant_of-self-in-Ok : goal.invariant_of-self-in-Ok
invariant_of-self-in-Ok g c =
    let old = c.self.inside.desk.engine.journal in
    let new = c.look_settled.new.self.engine.journal in
    looked_session old new c.args.viewer c.in-Ok.frame.view _ c.in-Ok.frame c.self.inside.frames.items
    c.hold.new.frames.items c.self.invariant c.in-Ok.ensures.frame.next c.in-Ok.ensures.journal
    (c.hold.ensures.held
    ∙ ap (λ items. items ++ record { frame = c.in-Ok.frame } ∷ []) c.in_ok-reserve.ensures.items)

pub invariant_of-self-in_err-one_text-in-Err-Refused :
    goal.invariant_of-self-in_err-one_text-in-Err-Refused
invariant_of-self-in_err-one_text-in-Err-Refused g c =
    let old = c.self.inside.desk.engine.journal in
    let new = c.look_settled.new.self.engine.journal in
    let told = rw c.in-Err-Refused.field-0-is at c.in-Err-Refused.ensures in
    refused_session old new c.args.viewer told.refused.view _ c.in-Err-Refused.why c.self.inside.frames.items
    c.reserve.new.self.items c.self.invariant told.refused.noted c.in_ok-reserve.ensures.items

pub invariant_of-self-in-Err-Refused : goal.invariant_of-self-in-Err-Refused
invariant_of-self-in-Err-Refused g c =
    let old = c.self.inside.desk.engine.journal in
    let new = c.look_settled.new.self.engine.journal in
    let told = rw c.in-Err-Refused.field-0-is at c.in-Err-Refused.ensures in
    refused_session old new c.args.viewer told.refused.view _ c.in-Err-Refused.why c.self.inside.frames.items
    c.reserve.new.self.items c.self.invariant told.refused.noted c.in_ok-reserve.ensures.items

pub returns-in_ok-hold-in-Ok-clause-texts : goal.returns-in_ok-hold-in-Ok-clause-texts
returns-in_ok-hold-in-Ok-clause-texts g c =
    let old = c.self.inside.desk.engine.journal in
    let new = c.look_settled.new.self.engine.journal in
    let texts = c.in_ok-hold-in-Ok.field-0 in
    subst (λ s. AreReported s.journal new texts) c.self.view_is
    (next_reported old new c.args.viewer c.in-Ok.frame.view _ c.in-Ok.frame texts c.in-Ok.ensures.frame.next
    c.in-Ok.ensures.journal c.in_ok-hold-in-Ok.ensures.texts)

pub returns-in_ok-one_text-in-Err-Refused-clause-texts :
    goal.returns-in_ok-one_text-in-Err-Refused-clause-texts
returns-in_ok-one_text-in-Err-Refused-clause-texts g c =
    let old = c.self.inside.desk.engine.journal in
    let new = c.look_settled.new.self.engine.journal in
    let told = rw c.in-Err-Refused.field-0-is at c.in-Err-Refused.ensures in
    let texts = c.in_ok-one_text-in-Err-Refused.field-0 in
    subst (λ s. AreReported s.journal new texts) c.self.view_is
    (refused_reported old new c.args.viewer told.refused.view _ c.in-Err-Refused.why texts told.refused.noted
    (c.in_ok-one_text-in-Err-Refused.ensures
    ∙ ap (λ t. t ∷ []) c.in_ok-refused_text-in-Err-Refused.ensures.value))
