use Rattle.std.proofs.Common.{refl, sym, ◌∙◌}
use Rattle.engine_core.proofs.Hiding.{hidden_by_none, hidden_next}
use Rattle.engine_core.proofs.filling.hide_flying.Goals as goal

pub loop-flight-init : goal.loop-flight-init
loop-flight-init c = record { order = refl; wants = sym (hidden_by_none c.args.queue.now.wants) }

pub loop-flight-preserved : goal.loop-flight-preserved
loop-flight-preserved c =
    record {
      order = c.hide.ensures.order ∙ c.loop-flight.invariant.order;
      wants = hidden_next (λ f. f.key) c.args.flying.now c.loop-flight.flight-index c.flight-item.result
          c.loop-flight-test.true c.flight-item.is c.args.queue.now.wants c.loop-flight.queue.wants _
          c.loop-flight.invariant.wants c.hide.ensures.wants;
    }
