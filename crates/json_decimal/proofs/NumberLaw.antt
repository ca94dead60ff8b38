-- A number of the grammar is the text of a decimal, part by part.
use Rattle.std.proofs.Common.{◌≡◌, ◌≢◌, ℕ, ◌+◌, ◌-◌, ◌<◌, List, [], ◌∷◌, ◌++◌, Bool, true, false}
use Rattle.std.proofs.Common.{◌==◌, inl, inr, Option, Some, None, refl, ap, ◌∙◌, arith}
use Rattle.std.proofs.Common.{append_assoc}
use Rattle.std.proofs.lemmas.Bool.Decides.{nat_tests}
use Rattle.std.proofs.lemmas.Bool.{eqb-true}
use Rattle.std.proofs.lemmas.List.Elements.{All-nil, All-cons}
use Rattle.std.specs.List.{All}
use Rattle.std.specs.Prelude.{if◌then◌else◌, MatchOption, ⊤}
use Rattle.fixed_geometry.specs.Ascii.{plus_sign, minus_sign, small_e, capital_e}
use Rattle.fixed_geometry.specs.Spelling.ExponentSign.{NoSign, Plus, Minus}
use Rattle.fixed_geometry.specs.Spelling.{ExponentSign, Exponent, digits_text, sign_text}
use Rattle.fixed_geometry.specs.Spelling.{fraction_text, fraction_digits, exponent_sign_text}
use Rattle.fixed_geometry.specs.Spelling.{exponent_text, exponent_digits}
use Rattle.json_decimal.specs.Ascii.{minus, decimal_point, digit_zero}
use Rattle.json_decimal.specs.Characters.{is_digit, is_nonzero_digit, is_e, is_sign}
use Rattle.json_decimal.specs.Grammar.{IsBytes, IsOne, AreAll, ◌and_then◌, IsOptional, AreDigits}
use Rattle.json_decimal.specs.Grammar.{IsInt, IsFrac, IsExp, IsNumber}
use Rattle.json_decimal.specs.Decimals.{IsWholePart, IsDecimal}

-- ---- digits

record SpellsDigits (t : List ℕ) : Type 0 where
  pub values : List ℕ
  pub small : All (λ d. d < 10) values
  pub spelled : t ≡ digits_text values

value_small : (b : ℕ) → is_digit b ≡ true → b - digit_zero < 10
value_small b h = grind (arith, nat_tests)

value_spelled : (b : ℕ) → is_digit b ≡ true → b ≡ digit_zero + (b - digit_zero)
value_spelled b h = grind (arith, nat_tests)

digits_spelled : (t : List ℕ) → AreAll is_digit t → SpellsDigits t
digits_spelled [] h = record { values = []; small = All-nil (λ d. d < 10); spelled = refl }
digits_spelled (b ∷ bs) h =
    let rest : SpellsDigits bs = digits_spelled bs h.1 in
    record {
      values = (b - digit_zero) ∷ rest.values;
      small = All-cons (λ d. d < 10) (b - digit_zero) rest.values (value_small b h.0) rest.small;
      spelled =
          ap (λ (c : ℕ). c ∷ bs) (value_spelled b h.0)
          ∙ ap (λ (cs : List ℕ). (digit_zero + (b - digit_zero)) ∷ cs) rest.spelled;
    }

-- a byte of a class, and digits behind it
record SpellsFirst (class : ℕ → Bool) (t : List ℕ) : Type 0 where
  pub first : ℕ
  pub is_first : class first ≡ true
  pub others : List ℕ
  pub small : All (λ d. d < 10) ((first - digit_zero) ∷ others)
  pub spelled : t ≡ digits_text ((first - digit_zero) ∷ others)

first_spelled : (class : ℕ → Bool) → ((b : ℕ) → class b ≡ true → is_digit b ≡ true) → (t : List ℕ)
    → (IsOne class and_then AreAll is_digit) t → SpellsFirst class t
first_spelled class within t h =
    let first = h.is_front in
    let others : SpellsDigits h.back = digits_spelled h.back h.is_back in
    let is_digit = within first.0 first.1 in
    record {
      first = first.0;
      is_first = first.1;
      others = others.values;
      small = All-cons (λ d. d < 10) (first.0 - digit_zero) others.values
          (value_small first.0 is_digit) others.small;
      spelled =
          h.spelled
          ∙ ap (λ (f : List ℕ). f ++ h.back) first.2
          ∙ ap (λ (c : ℕ). c ∷ h.back) (value_spelled first.0 is_digit)
          ∙ ap (λ (cs : List ℕ). (digit_zero + (first.0 - digit_zero)) ∷ cs) others.spelled;
    }

-- a digit at least
record SpellsSome (t : List ℕ) : Type 0 where
  pub values : List ℕ
  pub small : All (λ d. d < 10) values
  pub some : values ≢ []
  pub spelled : t ≡ digits_text values

some_digits : (t : List ℕ) → AreDigits t → SpellsSome t
some_digits t h =
    let k : SpellsFirst is_digit t = first_spelled is_digit (λ b d. d) t h in
    record {
      values = (k.first - digit_zero) ∷ k.others;
      small = k.small;
      some = λ e. cc;
      spelled = k.spelled;
    }

-- ---- the whole part

record SpellsWhole (t : List ℕ) : Type 0 where
  pub values : List ℕ
  pub small : All (λ d. d < 10) values
  pub whole : IsWholePart values
  pub spelled : t ≡ digits_text values

nonzero_is_digit : (b : ℕ) → is_nonzero_digit b ≡ true → is_digit b ≡ true
nonzero_is_digit b h = grind (arith, nat_tests)

nonzero_value : (b : ℕ) → is_nonzero_digit b ≡ true → 0 < b - digit_zero
nonzero_value b h = grind (arith, nat_tests)

whole_spelled : (t : List ℕ) → IsInt t → SpellsWhole t
whole_spelled t (inl h) = record {
  values = 0 ∷ [];
  small = All-cons (λ d. d < 10) 0 [] (omega arith) (All-nil (λ d. d < 10));
  whole = λ e. refl;
  spelled = h;
}
whole_spelled t (inr h) =
    let k : SpellsFirst is_nonzero_digit t =
    first_spelled is_nonzero_digit nonzero_is_digit t h in
    let above : 0 < k.first - digit_zero = nonzero_value k.first k.is_first in
    record {
      values = (k.first - digit_zero) ∷ k.others;
      small = k.small;
      whole = λ e. absurd (omega arith);
      spelled = k.spelled;
    }

-- ---- the fraction

record SpellsFraction (t : List ℕ) : Type 0 where
  pub fraction : Option (List ℕ)
  pub small : All (λ d. d < 10) (fraction_digits fraction)
  pub some : MatchOption fraction ⊤ (λ ds. ds ≢ [])
  pub spelled : t ≡ fraction_text fraction

fraction_spelled : (t : List ℕ) → IsOptional IsFrac t → SpellsFraction t
fraction_spelled t (inl h) = record {
  fraction = None;
  small = All-nil (λ d. d < 10);
  some = tt;
  spelled = h;
}
fraction_spelled t (inr h) =
    let digits : SpellsSome h.back = some_digits h.back h.is_back in
    record {
      fraction = Some digits.values;
      small = digits.small;
      some = digits.some;
      spelled =
          h.spelled
          ∙ ap (λ (f : List ℕ). f ++ h.back) h.is_front
          ∙ ap (λ (cs : List ℕ). decimal_point ∷ cs) digits.spelled;
    }

-- ---- the exponent

record SpellsSign (t : List ℕ) : Type 0 where
  pub sign : ExponentSign
  pub spelled : t ≡ exponent_sign_text sign

other_sign : (b : ℕ) → is_sign b ≡ true → (b == plus_sign) ≡ false → b ≡ minus_sign
other_sign b h k = grind (arith, nat_tests)

by_plus : (b : ℕ) (q : Bool) → (b == plus_sign) ≡ q → is_sign b ≡ true → SpellsSign (b ∷ [])
by_plus b true e h = record {
  sign = Plus;
  spelled = ap (λ (c : ℕ). c ∷ []) (eqb-true b plus_sign e);
}
by_plus b false e h = record {
  sign = Minus;
  spelled = ap (λ (c : ℕ). c ∷ []) (other_sign b h e);
}

sign_spelled : (t : List ℕ) → IsOptional (IsOne is_sign) t → SpellsSign t
sign_spelled t (inl h) = record { sign = NoSign; spelled = h }
sign_spelled t (inr h) =
    let one : SpellsSign (h.0 ∷ []) = by_plus h.0 (h.0 == plus_sign) refl h.1 in
    record { sign = one.sign; spelled = h.2 ∙ one.spelled }

by_capital : (b : ℕ) (q : Bool) → (b == capital_e) ≡ q → is_e b ≡ true
    → b ≡ (if q then capital_e else small_e)
by_capital b true e h = eqb-true b capital_e e
by_capital b false e h = grind (arith, nat_tests)

record SpellsExponent (t : List ℕ) : Type 0 where
  pub exponent : Option Exponent
  pub small : All (λ d. d < 10) (exponent_digits exponent)
  pub some : MatchOption exponent ⊤ (λ e. e.digits ≢ [])
  pub spelled : t ≡ exponent_text exponent

exponent_spelled : (t : List ℕ) → IsOptional IsExp t → SpellsExponent t
exponent_spelled t (inl h) = record {
  exponent = None;
  small = All-nil (λ d. d < 10);
  some = tt;
  spelled = h;
}
exponent_spelled t (inr h) =
    let mark = h.is_front in
    let behind = h.is_back in
    let sign : SpellsSign behind.front = sign_spelled behind.front behind.is_front in
    let digits : SpellsSome behind.back = some_digits behind.back behind.is_back in
    let is_capital = mark.0 == capital_e in
    let e : Exponent = record {
      is_capital = is_capital;
      sign = sign.sign;
      digits = digits.values;
    } in
    let rest : h.back ≡ exponent_sign_text sign.sign ++ digits_text digits.values =
    behind.spelled
    ∙ ap (λ (f : List ℕ). f ++ behind.back) sign.spelled
    ∙ ap (λ (r : List ℕ). exponent_sign_text sign.sign ++ r) digits.spelled in
    record {
      exponent = Some e;
      small = digits.small;
      some = digits.some;
      spelled =
          h.spelled
          ∙ ap (λ (f : List ℕ). f ++ h.back) mark.2
          ∙ ap (λ (c : ℕ). c ∷ h.back) (by_capital mark.0 is_capital refl mark.1)
          ∙ ap (λ (r : List ℕ). (if is_capital then capital_e else small_e) ∷ r) rest;
    }

-- ---- the whole number

record SpellsMinus (t : List ℕ) : Type 0 where
  pub is_negative : Bool
  pub spelled : t ≡ sign_text is_negative

minus_spelled : (t : List ℕ) → IsOptional (IsBytes (minus ∷ [])) t → SpellsMinus t
minus_spelled t (inl h) = record { is_negative = false; spelled = h }
minus_spelled t (inr h) = record { is_negative = true; spelled = h }

-- four texts, joined from the right and as a spelling joins them
joined_alike : (s w f x : List ℕ) → s ++ (w ++ (f ++ x)) ≡ (s ++ (w ++ f)) ++ x
joined_alike s w f x = simp append_assoc

pub number_is_decimal : (text : List ℕ) → IsNumber text → IsDecimal text
number_is_decimal text h =
    let behind_minus = h.is_back in
    let behind_whole = behind_minus.is_back in
    let s : SpellsMinus h.front = minus_spelled h.front h.is_front in
    let w : SpellsWhole behind_minus.front =
    whole_spelled behind_minus.front behind_minus.is_front in
    let f : SpellsFraction behind_whole.front =
    fraction_spelled behind_whole.front behind_whole.is_front in
    let x : SpellsExponent behind_whole.back =
    exponent_spelled behind_whole.back behind_whole.is_back in
    record {
      spelling = record {
        is_negative = s.is_negative;
        whole = w.values;
        fraction = f.fraction;
        exponent = x.exponent;
      };
      digits = record { whole = w.small; fraction = f.small; exponent = x.small };
      complete = record { whole = w.whole; fraction = f.some; exponent = x.some };
      spelled = cc (
        h.spelled,
        behind_minus.spelled,
        behind_whole.spelled,
        s.spelled,
        w.spelled,
        f.spelled,
        x.spelled,
        joined_alike (sign_text s.is_negative) (digits_text w.values) (fraction_text f.fraction)
            (exponent_text x.exponent),
      );
    }
