use Rattle.std.proofs.Common.{◌≡◌, min, take}
use Rattle.fixed_geometry.specs.Decimal.{digits_value}
use Rattle.fixed_geometry.specs.declared.decimal.general.TheConstants.{EXPONENT_CEILING}
use Rattle.fixed_geometry.proofs.decimal.general.exponent_size.Given as goal

abbrev pub invariant-loop-byte : goal.invariant-loop-byte
invariant-loop-byte l = l.value ≡ min (digits_value (take l.byte-index l.exponent)) EXPONENT_CEILING
