-- What is so of each row, one row after another.
use Rattle.std.proofs.Common.{◌≡◌, ℕ, zero, suc, ◌+◌, ◌-◌, ◌*◌, ◌<◌, ◌≤◌, Bool, true, false, List, length, nat_le, refl, ap, ◌∙◌, arith}
use Rattle.std.proofs.lemmas.Bool.{leb-true}
use Rattle.std.proofs.Math.Nat.{mul-le-mul_right}
use Rattle.std.specs.List.{range_with_len, list_all}
use Rattle.std.specs.Str.{is_utf8}
use Rattle.json_decimal.proofs.Told.{first_true, second_true}
use Rattle.meta_tables.specs.Offsets.{offset_size, offset_at, rises_at, are_offsets, are_utf8, text_at, HasText}
use Rattle.meta_tables.specs.declared.offset_type.OffsetType.{OffsetType}

-- from a row on, up to so many rows
abbrev pub all_from : (ℕ → Bool) → ℕ → ℕ → Bool
all_from p row count = list_all p (range_with_len row (count - row))

-- a row that is so may be left behind
pub one_row : (p : ℕ → Bool) (row count : ℕ) → row < count → p row ≡ true
    → all_from p (row + 1) count ≡ all_from p row count
one_row p row count h is =
    let more : count - row ≡ suc (count - (row + 1)) = omega arith in
    rw (more, is) refl

-- one that isn't settles it
pub not_row : (p : ℕ → Bool) (row count : ℕ) → row < count → p row ≡ false
    → all_from p row count ≡ false
not_row p row count h is =
    let more : count - row ≡ suc (count - (row + 1)) = omega arith in
    rw (more, is) refl

pub no_row : (p : ℕ → Bool) (row count : ℕ) → count ≤ row → all_from p row count ≡ true
no_row p row count h = let none : count - row ≡ 0 = omega arith in rw none refl

-- what is so of each is so of all
pub all_rows : (p : ℕ → Bool) (start n : ℕ) → ((k : ℕ) → k < n → p (start + k) ≡ true)
    → list_all p (range_with_len start n) ≡ true
all_rows p start zero each = refl
all_rows p start (suc n) each =
    let first : p start ≡ true = ap p (omega arith) ∙ each 0 (omega arith) in
    let rest = all_rows p (start + 1) n (λ k h. ap p (omega arith) ∙ each (suc k) (omega arith)) in
    rw (first, rest) refl

-- what is so of all is so of each
pub each_row : (p : ℕ → Bool) (start n k row : ℕ) → list_all p (range_with_len start n) ≡ true
    → k < n → start + k ≡ row → p row ≡ true
each_row p start zero k row all h at = absurd (omega arith)
each_row p start (suc n) zero row all h at =
    let same : row ≡ start = omega arith in
    ap p same ∙ first_true (p start) (list_all p (range_with_len (start + 1) n)) all
each_row p start (suc n) (suc k) row all h at =
    each_row p (start + 1) n k row
    (second_true (p start) (list_all p (range_with_len (start + 1) n)) all) (omega arith)
    (omega arith)

module _ (type : OffsetType) (offsets values : List ℕ) (count : ℕ)
    (are : are_offsets type offsets values count ≡ true) where
  abbrev at : ℕ → ℕ
  at row = offset_at type offsets row

  pub one_rises : (row : ℕ) → row < count → at row ≤ at (row + 1)
  one_rises row h = leb-true (at row) (at (row + 1))
      (each_row (rises_at type offsets) 0 count row row
      (first_true (list_all (rises_at type offsets) (range_with_len 0 count))
      (nat_le (at count) (length values)) are) h (omega arith))

  pub last_within : at count ≤ length values
  last_within = leb-true (at count) (length values)
      (second_true (list_all (rises_at type offsets) (range_with_len 0 count))
      (nat_le (at count) (length values)) are)

  -- no offset is greater than the last
  pub rises_to : (n row : ℕ) → row + n ≡ count → at row ≤ at count
  rises_to zero row h = let same : at row ≡ at count = ap at (omega arith) in omega (arith, same)
  rises_to (suc n) row h =
      let first = one_rises row (omega arith) in
      let rest = rises_to n (row + 1) (omega arith) in omega (arith, first, rest)

  pub has_text : (row : ℕ) → row < count → (count + 1) * offset_size type ≤ length offsets
      → HasText type offsets values row
  has_text row h there =
      let few = mul-le-mul_right {m = row + 2} {n = count + 1} (offset_size type) (omega arith) in
      let last = rises_to (count - (row + 1)) (row + 1) (omega arith) in record {
        there = omega (arith, few, there);
        rises = one_rises row h;
        within = omega (arith, last, last_within);
      }

pub text_is : (type : OffsetType) (offsets values : List ℕ) (count row : ℕ) → row < count
    → are_utf8 type offsets values count ≡ true
    → is_utf8 (text_at type offsets values row) ≡ true
text_is type offsets values count row h all =
    each_row (λ row. is_utf8 (text_at type offsets values row)) 0 count row row all h
    (omega arith)
