use Rattle.std.proofs.Common.{◌≡◌, drop}
use Rattle.tile_cache.specs.Pins.{SamePins}
use Rattle.engine_core.specs.Holding.{used_in_turn}
use Rattle.engine_core.proofs.pins.touch_all.Given as goal

-- those that are left give what all of them give
abbrev pub invariant-loop-address : goal.invariant-loop-address
invariant-loop-address l = record {
  residents : used_in_turn (drop l.address-index l.addresses) l.cache.residents
      ≡ used_in_turn l.addresses l.fn.cache.residents;
  pins : SamePins l.fn.cache.pins l.cache.pins;
  budget : l.cache.budget ≡ l.fn.cache.budget;
}
