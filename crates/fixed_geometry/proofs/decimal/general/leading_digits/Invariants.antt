use Rattle.fixed_geometry.proofs.Decimals.{Led}
use Rattle.fixed_geometry.specs.declared.decimal.general.TheConstants.{TENFOLD_CEILING}
use Rattle.fixed_geometry.proofs.decimal.general.leading_digits.Given as goal

abbrev pub invariant-loop-byte : goal.invariant-loop-byte
invariant-loop-byte l = Led l.mantissa l.keep l.byte-index l.left l.value TENFOLD_CEILING
