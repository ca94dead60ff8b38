use Rattle.std.proofs.Common.{◌≡◌, ◌+◌, ℕ, List, drop}
use Rattle.tile_cache.specs.Pins.{times}
use Rattle.engine_core.proofs.pins.unpin_all.Given as goal

-- those that are left have their pins still
abbrev pub invariant-loop-address : goal.invariant-loop-address
invariant-loop-address l = record {
  residents : l.cache.residents ≡ l.fn.cache.residents;
  budget : l.cache.budget ≡ l.fn.cache.budget;
  pins : (a : List ℕ) → times a l.fn.cache.pins + times a (drop l.address-index l.addresses)
      ≡ times a l.cache.pins + times a l.addresses;
}
