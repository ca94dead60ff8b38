-- Numbers in digits: they are numbers of JSON (RFC 8259, section 6), and their value is whole.
use Rattle.std.proofs.Common.{◌≡◌, ℕ, zero, suc, ◌+◌, ◌*◌, ◌/◌, ◌%◌, ◌^◌, ◌<◌, ◌==◌, nat_le, Bool, true, false, List, [], ◌∷◌, ◌++◌, length, get_or, append-nil, pos, Some, decimal, inl, inr, refl, ap, sym, ◌∙◌, arith, rules}
use Rattle.std.specs.Option.{option_and_then}
use Rattle.std.specs.List.{fold, list_any, before_first, position_or_len}
use Rattle.std.proofs.Math.Seq.{take-length}
use Rattle.std.proofs.lemmas.Bool.Decides.{nat_tests}
use Rattle.std.proofs.lemmas.Fmt.{digits_decimal, digits_value-decimal, decimal_digit, first_decimal}
use Rattle.std.proofs.lemmas.List.{drop_all}
use Rattle.std.proofs.lemmas.Str.Parse.{IsNumeralModel, numerals_by_fold}
use Rattle.fixed_geometry.specs.Ascii.{minus_sign}
use Rattle.fixed_geometry.specs.Decimal.{is_exponent_mark, is_point, digit_count, next_digit, digits_value, from_first, mantissa, exponent, fraction_places, positive_exponent, negative_exponent, fixed_size}
use Rattle.json_decimal.specs.Characters.{is_digit, is_nonzero_digit}
use Rattle.json_decimal.specs.Grammar.{AreAll, ◌and_then◌, IsOptional, IsInt, IsFrac, IsExp, IsNumber}
use Rattle.json_decimal.specs.JsonValue.{number}
use Rattle.json_decimal.specs.WholeNumbers.{is_whole, whole_value}
use Rattle.json_decimal.specs.declared.limits.TheConstants.{WHOLE_LIMIT}
use Rattle.json_decimal.proofs.Rules.{joined}
use Rattle.subtree_binary.specs.Chunks.{natural, within_limit}

own : IsNumeralModel (AreAll is_digit) digits_value
own = numerals_by_fold (AreAll is_digit) (search rules) (λ n ds. fold next_digit n ds)
    (search rules)

are_digits : (n : ℕ) → n < 2 ^ 64 → AreAll is_digit (decimal n)
are_digits n h = digits_decimal own n h

value_is : (n : ℕ) → n < 2 ^ 64 → digits_value (decimal n) ≡ n
value_is n h = digits_value-decimal own n h

-- ---- nothing but digits

module _ (p : ℕ → Bool) (others : (b : ℕ) → is_digit b ≡ true → p b ≡ false) where
  no_place : (ds : List ℕ) → AreAll is_digit ds → position_or_len p ds ≡ length ds
  no_place [] h = refl
  no_place (d ∷ ds) h =
      let below = no_place ds h.1 in rw (others d h.0) (omega arith)

  nothing_any : (ds : List ℕ) → AreAll is_digit ds → list_any p ds ≡ false
  nothing_any [] h = refl
  nothing_any (d ∷ ds) h = rw (others d h.0) (nothing_any ds h.1)

  all_before : (ds : List ℕ) → AreAll is_digit ds → before_first p ds ≡ ds
  all_before ds h = rw (no_place ds h) (take-length ds)

  none_behind : (ds : List ℕ) → AreAll is_digit ds → from_first p ds ≡ []
  none_behind ds h = rw (no_place ds h) (drop_all (length ds) ds (omega arith))

no_mark : (b : ℕ) → is_digit b ≡ true → is_exponent_mark b ≡ false
no_mark b h = grind (arith, nat_tests)

no_point : (b : ℕ) → is_digit b ≡ true → is_point b ≡ false
no_point b h = grind (arith, nat_tests)

no_minus : (b : ℕ) → is_digit b ≡ true → (b == minus_sign) ≡ false
no_minus b h = grind (arith, nat_tests)

-- ---- the value

module _ (ds : List ℕ) (h : AreAll is_digit ds) where
  mantissa_is : mantissa ds ≡ ds
  mantissa_is = all_before is_exponent_mark no_mark ds h

  no_exponent : exponent ds ≡ []
  no_exponent = none_behind is_exponent_mark no_mark ds h

  raises_none : positive_exponent ds ≡ 0
  raises_none = rw no_exponent refl

  lowers_none : negative_exponent ds ≡ 0
  lowers_none = rw no_exponent refl

  no_fraction : fraction_places ds ≡ 0
  no_fraction = ap (λ t. digit_count (from_first is_point t)) mantissa_is
      ∙ ap digit_count (none_behind is_point no_point ds h)

  nothing_left : is_whole ds ≡ true
  nothing_left = rw (raises_none, lowers_none, no_fraction)
      (left (digits_value (mantissa ds)))
    where
      left : (n : ℕ) → (n * 10 ^ 0 % 10 ^ (0 + 0) == 0) ≡ true
      left n = let none : n * 1 % 1 ≡ 0 = omega arith in rw none refl

  size_is : fixed_size ds 0 ≡ digits_value ds
  size_is = rw (raises_none, lowers_none, no_fraction, mantissa_is) (same (digits_value ds))
    where
      same : (n : ℕ) → (2 * (n * 10 ^ (0 + 0)) + 10 ^ (0 + 0)) / (2 * 10 ^ (0 + 0)) ≡ n
      same n = omega arith

  whole_is : whole_value ds ≡ Some (pos (digits_value ds))
  whole_is =
      rw (
        nothing_left,
        size_is,
        mantissa_is,
        nothing_any (λ b. b == minus_sign) no_minus ds h,
      ) refl

pub natural_is : (n : ℕ) → n < 2 ^ 63 → natural (number (decimal n)) ≡ Some n
natural_is n h =
    let small : nat_le n WHOLE_LIMIT ≡ true = grind (arith, nat_tests) in
    ap (option_and_then within_limit) (whole_is (decimal n) (are_digits n (omega arith)))
    ∙ rw (value_is n (omega arith), small) refl

-- ---- the grammar

int_is : (ds : List ℕ) → AreAll is_digit ds → 48 < get_or ds 0 0 → IsInt ds
int_is [] h some = absurd (omega arith)
int_is (d ∷ ds) h some = inr record {
  front = d ∷ [];
  back = ds;
  is_front = (d, first d h.0 some, refl);
  is_back = h.1;
  spelled = refl;
}
  where
    first : (d : ℕ) → is_digit d ≡ true → 48 < d → is_nonzero_digit d ≡ true
    first d h some = grind (arith, nat_tests)

decimal_is_int : (n : ℕ) → n < 2 ^ 64 → IsInt (decimal n)
decimal_is_int zero h = inl (decimal_digit 0 (omega arith))
decimal_is_int (suc n) h =
    int_is (decimal (suc n)) (are_digits (suc n) h) (first_decimal (suc n) (omega arith) h)

pub decimal_is_number : (n : ℕ) → n < 2 ^ 64 → IsNumber (decimal n)
decimal_is_number n h = record {
  front = [];
  back = decimal n ++ [];
  is_front = inl refl;
  is_back = joined IsInt (IsOptional IsFrac and_then IsOptional IsExp) (decimal n) []
      (decimal_is_int n h) record {
        front = [];
        back = [];
        is_front = inl refl;
        is_back = inl refl;
        spelled = refl;
      };
  spelled = sym (append-nil (decimal n));
}
