-- The extents of numbers and of strings that stand for themselves.
use Rattle.std.proofs.Common.{◌≡◌, ℕ, ◌-◌, ◌≤◌, List, [], length, take, drop, Bool, true, false, ◌&&◌, ◌||◌, Option, Some, None, refl, sym, subst, arith, rules}
use Rattle.std.specs.Prelude.{IsTrue, nat_le, ◌==◌}
use Rattle.std.specs.Str.{IsUtf8, bytes_eq}
use Rattle.std.proofs.lemmas.Slice.Eq.{bytes_eq-Decides}
use Rattle.std.proofs.lemmas.Bool.Decides.{nat_tests}
use Rattle.json_decimal.specs.Numbers.{after_number}
use Rattle.json_decimal.specs.Scan.{◌>>=◌}
use Rattle.json_decimal.specs.Strings.{string_at}
use Rattle.json_decimal.specs.Entries.{read_or_none, text_from, number_from, is_extent}
use Rattle.json_decimal.specs.declared.form.JsonForm.TheVariants as forms
use Rattle.json_decimal.proofs.Formed.{chars_scalar}
use Rattle.json_decimal.proofs.SoundNumber.{number_utf8}
use Rattle.json_decimal.proofs.SoundString.{StringRead, string_sound}
use Rattle.json_decimal.proofs.Told.{both_true, second_true, le_true}

equal_true : (a b : List ℕ) → a ≡ b → IsTrue (bytes_eq a b)
equal_true a b h = subst IsTrue (sym ((bytes_eq-Decides a b).1 h)) refl

is_true : (b : Bool) → IsTrue b → b ≡ true
is_true b h = h

true_equal : (a b : List ℕ) → IsTrue (bytes_eq a b) → a ≡ b
true_equal a b h = (bytes_eq-Decides a b).0 (is_true (bytes_eq a b) h)

pub number_extent : (bs : List ℕ) (extent : ℕ) → extent ≤ length bs
    → number_from bs ≡ take extent bs → IsTrue (is_extent forms.Number bs extent)
number_extent bs extent h k =
    both_true (nat_le extent (length bs)) (bytes_eq (number_from bs) (take extent bs))
    (le_true extent (length bs) h) (equal_true (number_from bs) (take extent bs) k)

pub number_by_extent : (bs : List ℕ) (extent : ℕ) → IsTrue (is_extent forms.Number bs extent)
    → number_from bs ≡ take extent bs
number_by_extent bs extent h =
    true_equal (number_from bs) (take extent bs)
    (second_true (nat_le extent (length bs)) (bytes_eq (number_from bs) (take extent bs)) h)

second_or : (a b : Bool) → IsTrue b → IsTrue (a || b)
second_or true b h = refl
second_or false b h = h

or_second : (a b : Bool) → a ≡ false → IsTrue (a || b) → IsTrue b
or_second true b e h = cc
or_second false b e h = h

zero_test : (n : ℕ) → (n ≡ 0 → ⊥) → (n == 0) ≡ false
zero_test n h = grind (arith, nat_tests)

abbrev long_enough : List ℕ → ℕ → Bool
long_enough bs extent = nat_le 2 extent && nat_le extent (length bs)

abbrev same_text : List ℕ → ℕ → Bool
same_text bs extent = bytes_eq (text_from (drop 1 bs)) (take (extent - 2) (drop 1 bs))

pub plain_extent : (bs : List ℕ) (extent : ℕ) → 2 ≤ extent → extent ≤ length bs
    → text_from (drop 1 bs) ≡ take (extent - 2) (drop 1 bs)
    → IsTrue (is_extent forms.Words bs extent)
plain_extent bs extent h k e =
    second_or (extent == 0) (long_enough bs extent && same_text bs extent)
    (both_true (long_enough bs extent) (same_text bs extent)
    (both_true (nat_le 2 extent) (nat_le extent (length bs)) (le_true 2 extent h)
    (le_true extent (length bs) k)) (equal_true (text_from (drop 1 bs))
    (take (extent - 2) (drop 1 bs)) e))

module _ (bs : List ℕ) (extent : ℕ) (some : extent ≡ 0 → ⊥)
    (told : IsTrue (is_extent forms.Words bs extent)) where
  plain_parts : IsTrue (long_enough bs extent && same_text bs extent)
  plain_parts =
      or_second (extent == 0) (long_enough bs extent && same_text bs extent) (zero_test extent some)
      told

  pub plain_by_extent : text_from (drop 1 bs) ≡ take (extent - 2) (drop 1 bs)
  plain_by_extent =
      true_equal (text_from (drop 1 bs)) (take (extent - 2) (drop 1 bs))
      (second_true (long_enough bs extent) (same_text bs extent) plain_parts)

-- what is read there is UTF-8
nil_utf8 : IsUtf8 []
nil_utf8 = search rules

number_utf8_by : (bs : List ℕ) (r : Option (List ℕ)) → after_number bs ≡ r
    → IsUtf8 (read_or_none (r >>= λ rest. let x : List ℕ × List ℕ =
    (take (length bs - length rest) bs, rest) in Some x))
number_utf8_by bs None h = nil_utf8
number_utf8_by bs (Some rest) h = number_utf8 bs rest h

pub number_from_utf8 : (bs : List ℕ) → IsUtf8 (number_from bs)
number_from_utf8 bs = number_utf8_by bs (after_number bs) refl

text_utf8_by : (bs : List ℕ) (r : Option (List ℕ × List ℕ)) → string_at bs ≡ r
    → IsUtf8 (read_or_none r)
text_utf8_by bs None h = nil_utf8
text_utf8_by bs (Some x) h =
    let r : StringRead bs x =
    string_sound bs x h in (r.chars, (chars_scalar r.chars r.inside r.are_chars, sym r.stands))

pub text_from_utf8 : (bs : List ℕ) → IsUtf8 (text_from bs)
text_from_utf8 bs = text_utf8_by bs (string_at bs) refl

pub number_extent_utf8 : (bs : List ℕ) (extent : ℕ) → IsTrue (is_extent forms.Number bs extent)
    → IsUtf8 (take extent bs)
number_extent_utf8 bs extent h = subst IsUtf8 (number_by_extent bs extent h) (number_from_utf8 bs)

pub plain_extent_utf8 : (bs : List ℕ) (extent : ℕ) → (extent ≡ 0 → ⊥)
    → IsTrue (is_extent forms.Words bs extent) → IsUtf8 (take (extent - 2) (drop 1 bs))
plain_extent_utf8 bs extent some h =
    subst IsUtf8 (plain_by_extent bs extent some h) (text_from_utf8 (drop 1 bs))
