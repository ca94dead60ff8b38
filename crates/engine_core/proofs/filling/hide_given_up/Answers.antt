use Rattle.std.specs.Prelude.{not}
use Rattle.std.proofs.Common.{◌<◌, ◌≤◌, filter, length, refl, sym, ◌∙◌, ap, subst, arith}
use Rattle.std.proofs.lemmas.Bool.{le-ltb, lt-ltb}
use Rattle.tile_types.specs.Keys.{same_key}
use Rattle.engine_state.specs.declared.limits.TheConstants.{ATTEMPT_LIMIT}
use Rattle.engine_core.specs.Filling.{is_given_up}
use Rattle.engine_core.proofs.Hiding.{failing_next, given_up_is_tried, hidden_alike, hidden_by_none, is_passing, passing_next}
use Rattle.engine_core.proofs.filling.hide_given_up.Goals.{then-times_tried-ge-ATTEMPT_LIMIT, else-times_tried-ge-ATTEMPT_LIMIT}
use Rattle.engine_core.proofs.filling.hide_given_up.Goals as goal

pub loop-key-init : goal.loop-key-init
loop-key-init c = record { order = refl; wants = sym (hidden_by_none c.args.queue.now.wants) }

pub loop-key-preserved : goal.loop-key-preserved
loop-key-preserved c =
    let attempts = c.args.attempts.now in
    let test = is_given_up attempts in
    let i = c.loop-key.key-index in
    let key = c.key-item.result in
    let times = length (filter (same_key key) attempts) in
    let start = c.args.queue.now.wants in
    elim c.if-times_tried-ge-ATTEMPT_LIMIT.branch [
      | then-times_tried-ge-ATTEMPT_LIMIT w ↦
          let many : ATTEMPT_LIMIT ≤ times = subst (λ n. ATTEMPT_LIMIT ≤ n) c.times_tried.ensures
          w.if-times_tried-ge-ATTEMPT_LIMIT.true in
          record {
            order = ap (λ q. q.order) w.queue-is ∙ w.hide.ensures.order
                ∙ c.loop-key.invariant.order;
            wants = ap (λ q. q.wants) w.queue-is
                ∙ passing_next test attempts i key c.loop-key-test.true c.key-item.is
                (ap not (le-ltb times ATTEMPT_LIMIT many)) start c.loop-key.queue.wants _
                c.loop-key.invariant.wants w.hide.ensures.wants;
          }
      | else-times_tried-ge-ATTEMPT_LIMIT w ↦
          let few : times < ATTEMPT_LIMIT = subst (λ n. n < ATTEMPT_LIMIT) c.times_tried.ensures
          w.if-times_tried-ge-ATTEMPT_LIMIT.false in
          record {
            order = ap (λ q. q.order) w.queue-is ∙ c.loop-key.invariant.order;
            wants = ap (λ q. q.wants) w.queue-is ∙ c.loop-key.invariant.wants
                ∙ failing_next test attempts i key c.loop-key-test.true c.key-item.is
                (ap not (lt-ltb times ATTEMPT_LIMIT few)) start;
          }
    ]

pub returns-clause-wants : goal.returns-clause-wants
returns-clause-wants c =
    let attempts = c.args.attempts.now in
    let n = c.loop-key.key-index in
    let end : length attempts ≤ n = omega (arith, c.loop-key-test.false) in
    c.loop-key.invariant.wants
    ∙ hidden_alike (is_passing (is_given_up attempts) n attempts) (is_given_up attempts)
    (given_up_is_tried attempts n end) c.args.queue.now.wants
