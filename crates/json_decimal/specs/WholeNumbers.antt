-- Numbers whose value is whole, in any spelling: 4, 4.0, 40e-1 and 0.4E+1 are the same one.
use Rattle.std.specs.Prelude.{ℕ, ◌+◌, ◌*◌, ◌%◌, ◌^◌, ◌==◌, ℤ, pos, negsuc, suc, unsigned_abs, min, nat_le, Bool, true, if◌then◌else◌, Option, Some, None, List}
use Rattle.fixed_geometry.specs.Decimal.{mantissa, digits_value, fraction_places, positive_exponent, negative_exponent, fixed, with_sign}
use Rattle.json_decimal.specs.JsonValue.{JsonValue}
use Rattle.json_decimal.specs.Parts.{number_of}
use Rattle.json_decimal.specs.Scan.{◌>>=◌}
use Rattle.json_decimal.specs.declared.limits.TheConstants.{WHOLE_LIMIT, WIDE_LIMIT}
use Rattle.json_decimal.specs.declared.whole.Whole.{Whole}
use Rattle.json_decimal.specs.declared.whole.Whole.TheVariants.{Is, Beyond}

-- nothing is left behind the point
abbrev pub is_whole : List ℕ → Bool
is_whole spelling =
    digits_value (mantissa spelling) * 10 ^ positive_exponent spelling
    % 10 ^ (fraction_places spelling + negative_exponent spelling) == 0

-- the value of a spelling, where it is whole
abbrev pub whole_value : List ℕ → Option ℤ
whole_value spelling = if is_whole spelling then Some (fixed spelling 0) else None

-- the value of a number, where it is whole
abbrev pub integer : JsonValue → Option ℤ
integer v = number_of v >>= whole_value

-- a whole number as it is told: its value, where its size is within the limit
abbrev pub as_told : ℤ → Whole
as_told n = if nat_le (unsigned_abs n) WHOLE_LIMIT then Is n else Beyond

-- the nearest whole number whose size is within the wide limit
abbrev pub clamped : ℤ → ℤ
clamped (pos n) = pos (min n WIDE_LIMIT)
clamped (negsuc n) = with_sign true (min (suc n) WIDE_LIMIT)
