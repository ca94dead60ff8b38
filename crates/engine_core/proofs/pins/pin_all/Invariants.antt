use Rattle.std.proofs.Common.{◌≡◌, ◌+◌, ℕ, List, drop, All, IsTrue}
use Rattle.tile_cache.specs.Pins.{times}
use Rattle.tile_cache.specs.Residents.{has_address}
use Rattle.engine_core.proofs.pins.pin_all.Given as goal

-- those that are left are to be pinned still
abbrev pub invariant-loop-address : goal.invariant-loop-address
invariant-loop-address l = record {
  residents : l.cache.residents ≡ l.fn.cache.residents;
  budget : l.cache.budget ≡ l.fn.cache.budget;
  left : All (λ a. IsTrue (has_address l.cache.residents a)) (drop l.address-index l.addresses);
  pins : (a : List ℕ) → times a l.cache.pins + times a (drop l.address-index l.addresses)
      ≡ times a l.fn.cache.pins + times a l.addresses;
}
