use Rattle.std.proofs.Common.{◌∷◌, [], ◌++◌, IsTrue, ◌∙◌, ap, subst, sym}
use Rattle.engine_state.specs.declared.entry.Entry.TheVariants.{Returned}
use Rattle.engine_state.specs.Frames.{is_held}
use Rattle.engine_state.specs.Journal.{replay}
use Rattle.session_run.specs.Obeying.{GoesBack, oldest}
use Rattle.session_run.proofs.Holding.{left_session, none_goes, none_left, oldest_goes, oldest_held}
use Rattle.session_run.proofs.session.Session.give_back.Goals as goal

pub give_back-requires : goal.give_back-requires
give_back-requires g c =
    let old = c.self.inside.desk.engine.journal in
    subst (λ frame. IsTrue (is_held (replay old).frames frame.id)) (sym c.into_frame.ensures)
    (oldest_held old c.self.inside.frames.items c.self.invariant c.args.viewer c.in-Some.own
    (sym c.in-Some.is ∙ c.take_oldest.ensures.found))

pub invariant_of-self : goal.invariant_of-self
invariant_of-self g c =
    let old = c.self.inside.desk.engine.journal in
    left_session old c.self.inside.frames.items c.self.invariant c.args.viewer c.in-Some.own
    c.give_back.new.self.engine.journal c.take_oldest.new.frames.items c.frames_are_numbered.ensures
    (sym c.in-Some.is ∙ c.take_oldest.ensures.found) c.take_oldest.ensures.rest
    (c.give_back.ensures.journal
    ∙ ap (λ frame. old ++ Returned 0 frame.id ∷ []) c.into_frame.ensures)

pub invariant_of-self-in_default : goal.invariant_of-self-in_default
invariant_of-self-in_default g c =
    let old = c.self.inside.desk.engine.journal in
    none_left old c.self.inside.frames.items c.self.invariant c.args.viewer
    c.take_oldest.new.frames.items
    (sym (c.in_default.is) ∙ c.take_oldest.ensures.found) c.take_oldest.ensures.rest

pub returns-in-Some-clause-journal : goal.returns-in-Some-clause-journal
returns-in-Some-clause-journal g c =
    let old = c.self.inside.desk.engine.journal in
    let new = c.give_back.new.self.engine.journal in
    subst (λ j. GoesBack (oldest (replay j) c.args.viewer) j new) (ap (λ s. s.journal) c.self.view_is)
    (oldest_goes old c.self.inside.frames.items c.self.invariant c.args.viewer c.in-Some.own new
    (sym c.in-Some.is ∙ c.take_oldest.ensures.found)
    (c.give_back.ensures.journal
    ∙ ap (λ frame. old ++ Returned 0 frame.id ∷ []) c.into_frame.ensures))

pub returns-in_default-clause-journal : goal.returns-in_default-clause-journal
returns-in_default-clause-journal g c =
    let old = c.self.inside.desk.engine.journal in
    subst (λ j. GoesBack (oldest (replay j) c.args.viewer) j old)
    (ap (λ s. s.journal) c.self.view_is)
    (none_goes old c.self.inside.frames.items c.self.invariant c.args.viewer
    (sym c.in_default.is ∙ c.take_oldest.ensures.found))
