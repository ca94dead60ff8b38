-- A spelled number is read as the decimal that it stands for.
use Rattle.std.proofs.Common.{◌≡◌, ℕ, ◌+◌, ◌-◌, ◌*◌, ◌^◌, ◌<◌, Bool, true, false, cond, ◌&&◌, ◌==◌}
use Rattle.std.proofs.Common.{List, [], ◌∷◌, ◌++◌, Option, Some, None, refl, ap, sym, ◌∙◌, arith}
use Rattle.std.proofs.Common.{length, get_or}
use Rattle.std.proofs.lemmas.Bool.Decides.{nat_tests}
use Rattle.std.proofs.lemmas.Bool.{lt-ltb}
use Rattle.std.proofs.lemmas.List.{length-map}
use Rattle.std.proofs.lemmas.List.Sums.{fold-append, list_all-from_AllPass}
use Rattle.std.specs.List.{fold, list_all, All}
use Rattle.std.specs.Char.{is_ascii_digit}
use Rattle.std.specs.Prelude.{nat_lt, if◌then◌else◌}
use Rattle.fixed_geometry.specs.Ascii.{digit_zero, minus_sign, small_e, capital_e}
use Rattle.fixed_geometry.specs.Quotient.{half_size}
use Rattle.fixed_geometry.specs.Decimal.{is_exponent_mark, has_minus, digits_value, digit_count}
use Rattle.fixed_geometry.specs.Decimal.{fixed, fixed_size, next_digit, with_sign}
use Rattle.fixed_geometry.specs.Spelling.ExponentSign.{NoSign, Plus, Minus}
use Rattle.fixed_geometry.specs.Spelling.{ExponentSign, Exponent, Spelling, IsSpelling, digits_text}
use Rattle.fixed_geometry.specs.Spelling.{fraction_text, exponent_text, exponent_sign_text, text_of}
use Rattle.fixed_geometry.specs.Spelling.{number_of, fraction_digits, exponent_digits}
use Rattle.fixed_geometry.specs.Spelling.{exponent_above, exponent_below, decimal_of}
use Rattle.fixed_geometry.proofs.Decimals.{next_digit_yes}
use Rattle.fixed_geometry.proofs.Spellings.{AreDigits, IsFraction, AreParts, Starts, both}
use Rattle.fixed_geometry.proofs.Spellings.{none_of_digits, minus_apart, digit_count_all}
use Rattle.fixed_geometry.proofs.Spellings.{minus_of_parts, size_of_parts}

-- each is a digit's value
abbrev AreValues : List ℕ → Type 0
AreValues ds = list_all (λ d. nat_lt d 10) ds ≡ true

values : (ds : List ℕ) → All (λ d. d < 10) ds → AreValues ds
values ds h = list_all-from_AllPass (λ d. nat_lt d 10) ds
    (λ k d l. lt-ltb (get_or ds k d) 10 (h k d l))

digit_is : (d : ℕ) → nat_lt d 10 ≡ true → is_ascii_digit (digit_zero + d) ≡ true
digit_is d h = grind (arith, nat_tests)

are_digits : (ds : List ℕ) → AreValues ds → AreDigits (digits_text ds)
are_digits [] h = refl
are_digits (d ∷ ds) h =
    let parts = both (nat_lt d 10) (list_all (λ d. nat_lt d 10) ds) h in
    ap (λ q. q && list_all is_ascii_digit (digits_text ds)) (digit_is d parts.0)
    ∙ are_digits ds parts.1

text_value : (a : ℕ) (ds : List ℕ) → AreValues ds
    → fold next_digit a (digits_text ds) ≡ fold (λ n d. 10 * n + d) a ds
text_value a [] h = refl
text_value a (d ∷ ds) h =
    let parts = both (nat_lt d 10) (list_all (λ d. nat_lt d 10) ds) h in
    let back : 10 * a + (digit_zero + d - digit_zero) ≡ 10 * a + d = omega arith in
    ap (λ n. fold next_digit n (digits_text ds))
    (next_digit_yes a (digit_zero + d) (digit_is d parts.0) ∙ back)
    ∙ text_value (10 * a + d) ds parts.1

-- ---- the mantissa

is_fraction : (f : Option (List ℕ)) → AreValues (fraction_digits f) → IsFraction (fraction_text f)
is_fraction None h = tt
is_fraction (Some ds) h = (refl, are_digits ds h)

fraction_count : (f : Option (List ℕ)) → AreValues (fraction_digits f)
    → digit_count (fraction_text f) ≡ length (fraction_digits f)
fraction_count None h = refl
fraction_count (Some ds) h = digit_count_all (digits_text ds) (are_digits ds h)
    ∙ length-map ds (λ d. digit_zero + d)

fraction_value : (a : ℕ) (f : Option (List ℕ)) → AreValues (fraction_digits f)
    → fold next_digit a (fraction_text f) ≡ fold (λ n d. 10 * n + d) a (fraction_digits f)
fraction_value a None h = refl
fraction_value a (Some ds) h = text_value a ds h

mantissa_value : (whole : List ℕ) (f : Option (List ℕ)) → AreValues whole
    → AreValues (fraction_digits f)
    → digits_value (digits_text whole ++ fraction_text f) ≡ number_of (whole ++ fraction_digits f)
mantissa_value whole f h g =
    fold-append next_digit 0 (digits_text whole) (fraction_text f)
    ∙ (ap (λ a. fold next_digit a (fraction_text f)) (text_value 0 whole h)
    ∙ (fraction_value (number_of whole) f g
    ∙ sym (fold-append (λ n d. 10 * n + d) 0 whole (fraction_digits f))))

-- ---- the exponent

starts_mark : (e : Option Exponent) → Starts is_exponent_mark (exponent_text e)
starts_mark None = tt
starts_mark (Some e) = capital_or_small e.is_capital where
  capital_or_small : (capital : Bool)
      → is_exponent_mark (if capital then capital_e else small_e) ≡ true
  capital_or_small true = refl
  capital_or_small false = refl

-- the mark is neither a minus nor a digit
after_mark : (capital : Bool) (t : List ℕ)
    → (has_minus ((if capital then capital_e else small_e) ∷ t) ≡ has_minus t)
    × (digits_value ((if capital then capital_e else small_e) ∷ t) ≡ digits_value t)
after_mark true t = (refl, refl)
after_mark false t = (refl, refl)

abbrev is_below : ExponentSign → Bool
is_below NoSign = false
is_below Plus = false
is_below Minus = true

sign_minus : (sign : ExponentSign) (ds : List ℕ) → AreValues ds
    → has_minus (exponent_sign_text sign ++ digits_text ds) ≡ is_below sign
sign_minus NoSign ds h = none_of_digits (λ b. b == minus_sign) minus_apart (digits_text ds)
    (are_digits ds h)
sign_minus Plus ds h = none_of_digits (λ b. b == minus_sign) minus_apart (digits_text ds)
    (are_digits ds h)
sign_minus Minus ds h = refl

sign_value : (sign : ExponentSign) (ds : List ℕ) → AreValues ds
    → digits_value (exponent_sign_text sign ++ digits_text ds) ≡ number_of ds
sign_value NoSign ds h = text_value 0 ds h
sign_value Plus ds h = text_value 0 ds h
sign_value Minus ds h = text_value 0 ds h

by_sign_above : (sign : ExponentSign) (n : ℕ)
    → cond (is_below sign) 0 n ≡ elim sign [ NoSign ↦ n | Plus ↦ n | Minus ↦ 0 ]
by_sign_above NoSign n = refl
by_sign_above Plus n = refl
by_sign_above Minus n = refl

by_sign_below : (sign : ExponentSign) (n : ℕ)
    → cond (is_below sign) n 0 ≡ elim sign [ NoSign ↦ 0 | Plus ↦ 0 | Minus ↦ n ]
by_sign_below NoSign n = refl
by_sign_below Plus n = refl
by_sign_below Minus n = refl

exponent_minus : (e : Exponent) → AreValues e.digits
    → has_minus (exponent_text (Some e)) ≡ is_below e.sign
exponent_minus e h = (after_mark e.is_capital (exponent_sign_text e.sign ++ digits_text e.digits)).0
    ∙ sign_minus e.sign e.digits h

exponent_value : (e : Exponent) → AreValues e.digits
    → digits_value (exponent_text (Some e)) ≡ number_of e.digits
exponent_value e h = (after_mark e.is_capital (exponent_sign_text e.sign ++ digits_text e.digits)).1
    ∙ sign_value e.sign e.digits h

above_is : (e : Option Exponent) → AreValues (exponent_digits e)
    → cond (has_minus (exponent_text e)) 0 (digits_value (exponent_text e)) ≡ exponent_above e
above_is None h = refl
above_is (Some e) h =
    ap (λ q. cond q 0 (digits_value (exponent_text (Some e)))) (exponent_minus e h)
    ∙ (ap (λ n. cond (is_below e.sign) 0 n) (exponent_value e h)
    ∙ by_sign_above e.sign (number_of e.digits))

below_is : (e : Option Exponent) → AreValues (exponent_digits e)
    → cond (has_minus (exponent_text e)) (digits_value (exponent_text e)) 0 ≡ exponent_below e
below_is None h = refl
below_is (Some e) h =
    ap (λ q. cond q (digits_value (exponent_text (Some e))) 0) (exponent_minus e h)
    ∙ (ap (λ n. cond (is_below e.sign) n 0) (exponent_value e h)
    ∙ by_sign_below e.sign (number_of e.digits))

-- ---- the whole text

pub fixed-text_of : (s : Spelling) (places : ℕ) → IsSpelling s
    → fixed (text_of s) places ≡ decimal_of s places
fixed-text_of s places h =
    let w = digits_text s.whole in
    let f = fraction_text s.fraction in
    let x = exponent_text s.exponent in
    let whole = values s.whole h.whole in
    let fraction = values (fraction_digits s.fraction) h.fraction in
    let exponent = values (exponent_digits s.exponent) h.exponent in
    let parts : AreParts w f x = record {
      whole = are_digits s.whole whole;
      fraction = is_fraction s.fraction fraction;
      exponent =
          starts_mark s.exponent;
    } in
    let n = number_of (s.whole ++ fraction_digits s.fraction) in
    let size : fixed_size (text_of s) places
    ≡ half_size (n * 10 ^ (places + exponent_above s.exponent))
    (10 ^ (length (fraction_digits s.fraction) + exponent_below s.exponent)) =
    size_of_parts s.is_negative w f x places parts
    ∙ (ap (λ v. half_size (v * 10 ^ (places + cond (has_minus x) 0 (digits_value x)))
    (10 ^ (digit_count f + cond (has_minus x) (digits_value x) 0)))
    (mantissa_value s.whole s.fraction whole fraction)
    ∙ (ap (λ v. half_size (n * 10 ^ (places + v))
    (10 ^ (digit_count f + cond (has_minus x) (digits_value x) 0)))
    (above_is s.exponent exponent)
    ∙ (ap (λ v. half_size (n * 10 ^ (places + exponent_above s.exponent))
    (10 ^ (v + cond (has_minus x) (digits_value x) 0))) (fraction_count s.fraction fraction)
    ∙ ap (λ v. half_size (n * 10 ^ (places + exponent_above s.exponent))
    (10 ^ (length (fraction_digits s.fraction) + v))) (below_is s.exponent exponent)))) in
    ap (λ q. with_sign q (fixed_size (text_of s) places)) (minus_of_parts s.is_negative w f x parts)
    ∙ ap (λ v. with_sign s.is_negative v) size
