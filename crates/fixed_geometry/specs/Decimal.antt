-- The whole number nearest to a decimal times a power of ten. The decimal stands as a text, as
-- RFC 8259, section 6, spells numbers: the mantissa before the first e or E, and from there on the
-- exponent. Each definition is of any bytes.
use Rattle.std.specs.Prelude.{ℕ, ◌+◌, ◌-◌, ◌*◌, ◌^◌, List, Bool, ◌==◌, ◌||◌, nat_le, if◌then◌else◌}
use Rattle.std.specs.Prelude.{Option, Some, None, min, ◌≡◌, ℤ, pos, neg_ℤ, count_by, drop}
use Rattle.std.specs.List.{fold, before_first, position_or_len, list_any}
use Rattle.std.specs.Char.{is_ascii_digit}
use Rattle.fixed_geometry.specs.declared.limits.TheConstants.{PLACES_LIMIT, SCALED_LIMIT}
use Rattle.fixed_geometry.specs.Ascii.{digit_zero, minus_sign, decimal_point, small_e, capital_e}
use Rattle.fixed_geometry.specs.Quotient.{half_size}

-- the most places behind the point to which a decimal is read
abbrev pub places_limit : ℕ
places_limit = PLACES_LIMIT

-- the greatest limit within which a decimal is read
abbrev pub scaled_limit : ℕ
scaled_limit = SCALED_LIMIT

abbrev pub is_exponent_mark : ℕ → Bool
is_exponent_mark b = b == small_e || b == capital_e

abbrev pub is_point : ℕ → Bool
is_point b = b == decimal_point

abbrev pub has_minus : List ℕ → Bool
has_minus t = list_any (λ b. b == minus_sign) t

-- how many of the bytes are digits
abbrev pub digit_count : List ℕ → ℕ
digit_count t = count_by is_ascii_digit t

-- a number with one more digit behind it; a byte that is no digit changes nothing
abbrev pub next_digit : ℕ → ℕ → ℕ
next_digit n b = if is_ascii_digit b then 10 * n + (b - digit_zero) else n

-- the whole number whose digits in base ten are the digits among the bytes
abbrev pub digits_value : List ℕ → ℕ
digits_value t = fold next_digit 0 t

-- the part from the first byte on that passes
abbrev pub from_first : (ℕ → Bool) → List ℕ → List ℕ
from_first p t = drop (position_or_len p t) t

-- the part before the exponent's mark
abbrev pub mantissa : List ℕ → List ℕ
mantissa t = before_first is_exponent_mark t

-- the part from the exponent's mark on
abbrev pub exponent : List ℕ → List ℕ
exponent t = from_first is_exponent_mark t

-- how many digits of the mantissa stand before its point
abbrev pub whole_places : List ℕ → ℕ
whole_places t = digit_count (before_first is_point (mantissa t))

-- how many digits of the mantissa stand behind its point
abbrev pub fraction_places : List ℕ → ℕ
fraction_places t = digit_count (from_first is_point (mantissa t))

-- an exponent above zero, or else 0: the mantissa counts ten times as much for each one
abbrev pub positive_exponent : List ℕ → ℕ
positive_exponent t = if has_minus (exponent t) then 0 else digits_value (exponent t)

-- the size of an exponent below zero, or else 0: the mantissa counts a tenth as much for each one
abbrev pub negative_exponent : List ℕ → ℕ
negative_exponent t = if has_minus (exponent t) then digits_value (exponent t) else 0

-- the decimal's size times 10 ^ places, to the nearest whole number, a half upwards
abbrev pub fixed_size : List ℕ → ℕ → ℕ
fixed_size t places =
    half_size
    (digits_value (mantissa t) * 10 ^ (places + positive_exponent t))
    (10 ^ (fraction_places t + negative_exponent t))

-- the number of this size, below zero where `negative` says so
abbrev pub with_sign : Bool → ℕ → ℤ
with_sign negative n = if negative then neg_ℤ (pos n) else pos n

-- the decimal times 10 ^ places, to the nearest whole number, a half away from zero
abbrev pub fixed : List ℕ → ℕ → ℤ
fixed t places = with_sign (has_minus (mantissa t)) (fixed_size t places)

-- that number, where its size is at most max
abbrev pub fixed_within : List ℕ → ℕ → ℕ → Option ℤ
fixed_within t places max = if nat_le (fixed_size t places) max then Some (fixed t places) else None

-- the two are equal, or both reach the ceiling
abbrev pub SameUpTo : ℕ → ℕ → ℕ → Type 0
SameUpTo ceiling m n = min m ceiling ≡ min n ceiling

-- the same, clamped to a limit in size
abbrev pub clamped_fixed : List ℕ → ℕ → ℕ → ℤ
clamped_fixed t places limit = with_sign (has_minus (mantissa t)) (min (fixed_size t places) limit)
