use Rattle.std.proofs.Common.{refl, sym, ◌∙◌}
use Rattle.engine_core.proofs.Hiding.{hidden_by_none, hidden_next}
use Rattle.engine_core.proofs.filling.hide_all.Goals as goal

pub loop-key-init : goal.loop-key-init
loop-key-init c = record { order = refl; wants = sym (hidden_by_none c.args.queue.now.wants) }

pub loop-key-preserved : goal.loop-key-preserved
loop-key-preserved c =
    record {
      order = c.hide.ensures.order ∙ c.loop-key.invariant.order;
      wants = hidden_next (λ k. k) c.args.keys.now c.loop-key.key-index c.key-item.result
          c.loop-key-test.true c.key-item.is c.args.queue.now.wants c.loop-key.queue.wants _
          c.loop-key.invariant.wants c.hide.ensures.wants;
    }
