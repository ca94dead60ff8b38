use Rattle.std.proofs.Common.{◌≡◌, map}
use Rattle.engine_core.specs.Filling.{hidden_where, is_given_up}
use Rattle.engine_core.proofs.Hiding.{is_passing}
use Rattle.engine_core.proofs.filling.hide_given_up.Given as goal

-- of the keys before this one the wants of those that are given up are hidden
abbrev pub invariant-loop-key : goal.invariant-loop-key
invariant-loop-key l = record {
  order : l.queue.order ≡ l.fn.queue.order;
  wants : l.queue.wants ≡ map (hidden_where
      (is_passing (is_given_up l.attempts) l.key-index l.attempts)) l.fn.queue.wants;
}
