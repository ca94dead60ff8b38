-- The text of a decimal is a number of the grammar, part by part.
use Rattle.std.proofs.Common.{◌≡◌, ◌≢◌, ℕ, zero, suc, ◌+◌, ◌<◌, List, [], ◌∷◌, ◌++◌, Bool, true}
use Rattle.std.proofs.Common.{false, inl, inr, Option, Some, None, refl, sym, ◌∙◌, subst, arith}
use Rattle.std.proofs.Common.{append_assoc}
use Rattle.std.proofs.lemmas.Bool.Decides.{nat_tests}
use Rattle.std.proofs.lemmas.List.Elements.{All-head, All-tail}
use Rattle.std.specs.List.{All}
use Rattle.std.specs.Prelude.{if◌then◌else◌, MatchOption, ⊤}
use Rattle.fixed_geometry.specs.Ascii.{plus_sign, minus_sign, small_e, capital_e}
use Rattle.fixed_geometry.specs.Spelling.ExponentSign.{NoSign, Plus, Minus}
use Rattle.fixed_geometry.specs.Spelling.{ExponentSign, Exponent, digits_text, sign_text}
use Rattle.fixed_geometry.specs.Spelling.{fraction_text, fraction_digits, exponent_sign_text}
use Rattle.fixed_geometry.specs.Spelling.{exponent_text, exponent_digits}
use Rattle.json_decimal.specs.Ascii.{minus, decimal_point, digit_zero}
use Rattle.json_decimal.specs.Characters.{is_digit, is_nonzero_digit, is_e, is_sign}
use Rattle.json_decimal.specs.Grammar.{IsBytes, IsOne, AreAll, ◌and_then◌, IsOptional, AreDigits}
use Rattle.json_decimal.specs.Grammar.{IsInt, IsFrac, IsExp, IsNumber}
use Rattle.json_decimal.specs.Decimals.{IsWholePart, IsDecimal}
use Rattle.json_decimal.proofs.Rules.{joined}

-- ---- digits

digit_is : (d : ℕ) → d < 10 → is_digit (digit_zero + d) ≡ true
digit_is d h = grind (arith, nat_tests)

all_digits : (ds : List ℕ) → All (λ d. d < 10) ds → AreAll is_digit (digits_text ds)
all_digits [] h = tt
all_digits (d ∷ ds) h =
    (digit_is d (All-head (λ d. d < 10) d ds h), all_digits ds (All-tail (λ d. d < 10) d ds h))

-- a first byte of a class, and digits behind it
first_digit : (class : ℕ → Bool) (d : ℕ) (ds : List ℕ) → class (digit_zero + d) ≡ true
    → All (λ d. d < 10) (d ∷ ds) → (IsOne class and_then AreAll is_digit) (digits_text (d ∷ ds))
first_digit class d ds first h = record {
  front = (digit_zero + d) ∷ [];
  back = digits_text ds;
  is_front = (digit_zero + d, first, refl);
  is_back = all_digits ds (All-tail (λ d. d < 10) d ds h);
  spelled = refl;
}

some_digits : (ds : List ℕ) → All (λ d. d < 10) ds → ds ≢ [] → AreDigits (digits_text ds)
some_digits [] h some = absurd (some refl)
some_digits (d ∷ ds) h some =
    first_digit is_digit d ds (digit_is d (All-head (λ d. d < 10) d ds h)) h

-- ---- the parts

minus_is : (negative : Bool) → IsOptional (IsBytes (minus ∷ [])) (sign_text negative)
minus_is true = inr refl
minus_is false = inl refl

nonzero_is : (d : ℕ) → d < 10 → 0 < d → is_nonzero_digit (digit_zero + d) ≡ true
nonzero_is d h above = grind (arith, nat_tests)

whole_is : (ds : List ℕ) → All (λ d. d < 10) ds → IsWholePart ds → IsInt (digits_text ds)
whole_is [] h whole = absurd whole
whole_is (zero ∷ ds) h whole =
    subst (λ (es : List ℕ). IsInt (digits_text (0 ∷ es))) (sym (whole refl)) (inl refl)
whole_is (suc n ∷ ds) h whole =
    inr (first_digit is_nonzero_digit (suc n) ds
    (nonzero_is (suc n) (All-head (λ d. d < 10) (suc n) ds h) (omega arith)) h)

fraction_is : (f : Option (List ℕ)) → All (λ d. d < 10) (fraction_digits f)
    → MatchOption f ⊤ (λ ds. ds ≢ []) → IsOptional IsFrac (fraction_text f)
fraction_is None h some = inl refl
fraction_is (Some ds) h some = inr (record {
  front = decimal_point ∷ [];
  back = digits_text ds;
  is_front = refl;
  is_back = some_digits ds h some;
  spelled = refl;
})

sign_is : (sign : ExponentSign) → IsOptional (IsOne is_sign) (exponent_sign_text sign)
sign_is NoSign = inl refl
sign_is Plus = inr (plus_sign, refl, refl)
sign_is Minus = inr (minus_sign, refl, refl)

mark_is : (capital : Bool) → is_e (if capital then capital_e else small_e) ≡ true
mark_is true = refl
mark_is false = refl

exponent_is : (x : Option Exponent) → All (λ d. d < 10) (exponent_digits x)
    → MatchOption x ⊤ (λ e. e.digits ≢ []) → IsOptional IsExp (exponent_text x)
exponent_is None h some = inl refl
exponent_is (Some e) h some = inr (record {
  front = (if e.is_capital then capital_e else small_e) ∷ [];
  back = exponent_sign_text e.sign ++ digits_text e.digits;
  is_front = (if e.is_capital then capital_e else small_e, mark_is e.is_capital, refl);
  is_back = joined (IsOptional (IsOne is_sign)) AreDigits
      (exponent_sign_text e.sign) (digits_text e.digits)
      (sign_is e.sign) (some_digits e.digits h some);
  spelled = refl;
})

-- ---- the whole number

-- four texts, joined as a spelling joins them and from the right
joined_alike : (s w f x : List ℕ) → (s ++ (w ++ f)) ++ x ≡ s ++ (w ++ (f ++ x))
joined_alike s w f x = simp append_assoc

pub decimal_is_number : (text : List ℕ) → IsDecimal text → IsNumber text
decimal_is_number text h =
    let spelling = h.spelling in
    let s = sign_text spelling.is_negative in
    let w = digits_text spelling.whole in
    let f = fraction_text spelling.fraction in
    let x = exponent_text spelling.exponent in
    record {
      front = s;
      back = w ++ (f ++ x);
      is_front = minus_is spelling.is_negative;
      is_back = joined IsInt (IsOptional IsFrac and_then IsOptional IsExp) w (f ++ x)
          (whole_is spelling.whole h.digits.whole h.complete.whole)
          (joined (IsOptional IsFrac) (IsOptional IsExp) f x
          (fraction_is spelling.fraction h.digits.fraction h.complete.fraction)
          (exponent_is spelling.exponent h.digits.exponent h.complete.exponent));
      spelled = h.spelled ∙ joined_alike s w f x;
    }
