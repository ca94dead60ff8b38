use Rattle.std.proofs.Common.{◌≡◌, map, take}
use Rattle.std.specs.List.{list_any}
use Rattle.tile_types.specs.Keys.{same_key}
use Rattle.engine_core.specs.Filling.{hidden_where}
use Rattle.engine_core.proofs.filling.hide_flying.Given as goal

-- the wants of the keys before this one are hidden
abbrev pub invariant-loop-flight : goal.invariant-loop-flight
invariant-loop-flight l = record {
  order : l.queue.order ≡ l.fn.queue.order;
  wants : l.queue.wants ≡ map (hidden_where
      (λ key. list_any (λ f. same_key f.key key) (take l.flight-index l.flying))) l.fn.queue.wants;
}
