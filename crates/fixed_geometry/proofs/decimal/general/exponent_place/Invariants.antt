use Rattle.std.proofs.Common.{◌≡◌, ℕ, ◌<◌, get_or, false}
use Rattle.fixed_geometry.specs.Decimal.{is_exponent_mark}
use Rattle.fixed_geometry.proofs.decimal.general.exponent_place.Given as goal

abbrev pub invariant-loop-i : goal.invariant-loop-i
invariant-loop-i l = (k : ℕ) → k < l.i → is_exponent_mark (get_or l.text k 0) ≡ false
