use Rattle.std.proofs.Common.{IsTrue, ◌∙◌, ap, arith, length, subst, sym}
use Rattle.std.specs.Vec.Iter.{into_iter_items}
use Rattle.engine_state.specs.Frames.{is_held}
use Rattle.engine_state.specs.Journal.{replay}
use Rattle.session_run.proofs.Ending.{all_ended, first_held, rest_held, returned_is, same_end}
use Rattle.session_run.proofs.session.give_all_back.Goals as goal

pub give_back-requires : goal.give_back-requires
give_back-requires g c =
    let at = c.loop-own in
    let j = at.desk.engine.journal in
    subst (λ frame. IsTrue (is_held (replay j).frames frame.id)) (sym c.into_frame.ensures)
    (first_held j j c.in-Some.own (into_iter_items c.next.new.self)
    (into_iter_items at.own-iterator) c.in-Some.ensures.steps.0 at.invariant.held)

pub loop-own-preserved : goal.loop-own-preserved
loop-own-preserved g c =
    let at = c.loop-own in
    let j = at.desk.engine.journal in
    let new = c.give_back.new.self.engine.journal in
    let rest = into_iter_items c.next.new.self in
    let all = into_iter_items at.own-iterator in
    let are = c.in-Some.ensures.steps.0 in
    let is =
    returned_is j new c.in-Some.own rest all are at.invariant.held c.into_frame.result
    c.into_frame.ensures c.give_back.ensures.journal in
    record {
      held = rest_held j new c.in-Some.own rest all are at.invariant.held is;
      same_end =
          same_end j new c.in-Some.own rest all are at.invariant.held _ is at.invariant.same_end;
      library = c.give_back.ensures.library ∙ at.invariant.library;
      len =
          let was = at.invariant.len in
          let gone = c.in-Some.ensures.steps.1 in
          let short = ap length are in
          omega arith;
    }

pub returns-clause-journal : goal.returns-clause-journal
returns-clause-journal g c =
    let at = c.loop-own in
    sym (all_ended (into_iter_items at.own-iterator) at.desk.engine.journal
    (sym at.invariant.len ∙ c.in-None.ensures.steps.0) at.invariant.held) ∙ at.invariant.same_end
