use Rattle.std.proofs.Common.{◌≡◌, ◌^◌, ◌-◌, min, take}
use Rattle.fixed_geometry.specs.Decimal.{digits_value}
use Rattle.json_decimal.proofs.places.exponent_size.Given as goal

abbrev pub invariant-loop-byte : goal.invariant-loop-byte
invariant-loop-byte l = l.value ≡ min (digits_value (take l.byte-index l.exponent)) (2 ^ 64 - 1)
