-- The spellings of a number, and the decimal that each stands for (RFC 8259, section 6):
-- number = [ minus ] int [ frac ] [ exp ], where frac is a point and digits, and exp a mark, a sign
-- or none, and digits.
use Rattle.std.specs.Prelude.{ℕ, ◌+◌, ◌*◌, ◌^◌, ◌<◌, List, [], ◌∷◌, ◌++◌, Bool, true, false}
use Rattle.std.specs.Prelude.{if◌then◌else◌, ℤ, Option, Some, None, map, length, fold, All, ◌≡◌}
use Rattle.fixed_geometry.specs.Ascii.{digit_zero, minus_sign, plus_sign, decimal_point, small_e}
use Rattle.fixed_geometry.specs.Ascii.{capital_e}
use Rattle.fixed_geometry.specs.Quotient.{half_size}
use Rattle.fixed_geometry.specs.Decimal.{has_minus, mantissa, fixed_size, with_sign}

pub data ExponentSign : Type 0 where
  NoSign : ExponentSign
  Plus : ExponentSign
  Minus : ExponentSign

pub record Exponent : Type 0 where
  pub is_capital : Bool
  pub sign : ExponentSign
  pub digits : List ℕ

-- the parts of a number; digits are the numbers from 0 to 9
pub record Spelling : Type 0 where
  pub is_negative : Bool
  pub whole : List ℕ
  pub fraction : Option (List ℕ)
  pub exponent : Option Exponent

abbrev pub fraction_digits : Option (List ℕ) → List ℕ
fraction_digits None = []
fraction_digits (Some ds) = ds

abbrev pub exponent_digits : Option Exponent → List ℕ
exponent_digits None = []
exponent_digits (Some e) = e.digits

-- the digits are from 0 to 9. The grammar asks more: no part without digits, and no leading zero
pub record IsSpelling (s : Spelling) : Type 0 where
  pub whole : All (λ d. d < 10) s.whole
  pub fraction : All (λ d. d < 10) (fraction_digits s.fraction)
  pub exponent : All (λ d. d < 10) (exponent_digits s.exponent)

-- ---- the text

abbrev pub digits_text : List ℕ → List ℕ
digits_text ds = map (λ d. digit_zero + d) ds

abbrev pub sign_text : Bool → List ℕ
sign_text true = minus_sign ∷ []
sign_text false = []

abbrev pub fraction_text : Option (List ℕ) → List ℕ
fraction_text None = []
fraction_text (Some ds) = decimal_point ∷ digits_text ds

abbrev pub exponent_sign_text : ExponentSign → List ℕ
exponent_sign_text NoSign = []
exponent_sign_text Plus = plus_sign ∷ []
exponent_sign_text Minus = minus_sign ∷ []

abbrev pub exponent_text : Option Exponent → List ℕ
exponent_text None = []
exponent_text (Some e) =
    (if e.is_capital then capital_e else small_e)
    ∷ (exponent_sign_text e.sign ++ digits_text e.digits)

abbrev pub text_of : Spelling → List ℕ
text_of s =
    sign_text s.is_negative
    ++ (digits_text s.whole ++ fraction_text s.fraction)
    ++ exponent_text s.exponent

-- ---- the number

-- the number with these digits in base ten
abbrev pub number_of : List ℕ → ℕ
number_of ds = fold (λ n d. 10 * n + d) 0 ds

-- how often an exponent multiplies by ten
abbrev pub exponent_above : Option Exponent → ℕ
exponent_above None = 0
exponent_above (Some e) = elim e.sign
    [ NoSign ↦ number_of e.digits | Plus ↦ number_of e.digits | Minus ↦ 0 ]

-- how often an exponent divides by ten
abbrev pub exponent_below : Option Exponent → ℕ
exponent_below None = 0
exponent_below (Some e) = elim e.sign [ NoSign ↦ 0 | Plus ↦ 0 | Minus ↦ number_of e.digits ]

-- the spelled decimal times 10 ^ places, to the nearest whole number, a half away from zero
abbrev pub decimal_of : Spelling → ℕ → ℤ
decimal_of s places =
    let fraction = fraction_digits s.fraction in
    let multiplied = number_of (s.whole ++ fraction) * 10 ^ (places + exponent_above s.exponent) in
    let divisor = 10 ^ (length fraction + exponent_below s.exponent) in
    with_sign s.is_negative (half_size multiplied divisor)

-- with a minus sign before it, and with none, the text spells n with its last f digits behind the point
pub record SpellsUnsigned (t : List ℕ) (n f : ℕ) : Type 0 where
  pub sign : (negative : Bool) → has_minus (mantissa (sign_text negative ++ t)) ≡ negative
  pub size : (negative : Bool) (places : ℕ)
      → fixed_size (sign_text negative ++ t) places ≡ half_size (n * 10 ^ places) (10 ^ f)
