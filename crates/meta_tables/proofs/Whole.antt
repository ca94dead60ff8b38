-- Texts behind one another are UTF-8, each of them, where all of them together are and each begins
-- between two characters.
use Rattle.std.proofs.Common.{◌≡◌, ℕ, zero, suc, ◌+◌, ◌-◌, ◌<◌, ◌≤◌, ◌↔◌, Bool, true, false, List, ◌++◌, length, take, drop, refl, ap, sym, ◌∙◌, subst, arith, length-drop}
use Rattle.std.proofs.lemmas.Bool.{false_from_ne_true}
use Rattle.std.proofs.lemmas.List.{length-take-le}
use Rattle.std.proofs.lemmas.List.Folds.{drop_split}
use Rattle.std.proofs.lemmas.Str.{IsUtf8-append, IsUtf8-between, IsUtf8-from_is_utf8, IsUtf8-nil, is_utf8-from_IsUtf8, IsCharBoundary-end, IsCharBoundary-from_drop}
use Rattle.std.specs.Bool.{IsTrue}
use Rattle.std.specs.List.{slice_range}
use Rattle.std.specs.Str.{IsUtf8, is_utf8, IsCharBoundary}
use Rattle.bytes.proofs.Ranges.{drop-slice_range, slice_range-slice_range, take-append_past}
use Rattle.meta_tables.specs.Boundaries.{AreBoundaries}
use Rattle.meta_tables.specs.Offsets.{offset_at, are_offsets, are_utf8, text_at}
use Rattle.meta_tables.specs.declared.offset_type.OffsetType.{OffsetType}
use Rattle.meta_tables.proofs.EachRow.{one_rises, last_within, rises_to, all_rows, text_is}

length-slice_range : (xs : List ℕ) (a b : ℕ) → b ≤ length xs → length (slice_range xs a b) ≡ b - a
length-slice_range xs a b h =
    length-take-le (b - a) (drop a xs) (omega (arith, length-drop a xs))

apart : false ≡ true → ⊥
apart h = cc

-- a stretch is its front and its back
parted : (xs : List ℕ) (a b c : ℕ) → a ≤ b → b ≤ c → c ≤ length xs
    → slice_range xs a c ≡ slice_range xs a b ++ slice_range xs b c
parted xs a b c front back within =
    ap (take (c - a)) (drop_split xs a b front)
    ∙ take-append_past (slice_range xs a b) (drop b xs) (c - b) (c - a)
    (omega (arith, length-slice_range xs a b (omega arith)))

module _ (type : OffsetType) (offsets values : List ℕ) (count : ℕ)
    (are : are_offsets type offsets values count ≡ true) where
  abbrev at : ℕ → ℕ
  at k = offset_at type offsets k

  -- all texts together
  abbrev pub whole : List ℕ
  whole = slice_range values (at 0) (at count)

  pub within : at count ≤ length values
  within = last_within type offsets values count are

  up : (k : ℕ) → k ≤ count → at k ≤ at count
  up k h = rises_to type offsets values count are (count - k) k (omega arith)

  -- the first offset is the least
  pub above : (k : ℕ) → k ≤ count → at 0 ≤ at k
  above zero h = omega arith
  above (suc k) h =
      let same : at (suc k) ≡ at (k + 1) = ap at (omega arith) in
      omega (
        arith,
        same,
        above k (omega arith),
        one_rises type offsets values count are k (omega arith),
      )

  module _ (each : are_utf8 type offsets values count ≡ true) where
    one_utf8 : (k : ℕ) → k < count → IsUtf8 (slice_range values (at k) (at (k + 1)))
    one_utf8 k h = IsUtf8-from_is_utf8 _ (text_is type offsets values count k h each)

    -- from each text on they are UTF-8 together
    rest_utf8 : (n k : ℕ) → k + n ≡ count → IsUtf8 (slice_range values (at k) (at count))
    rest_utf8 zero k h =
        let end : k ≡ count = omega arith in
        let last : at k ≡ at count = ap at end in
        let none : at count - at k ≡ 0 = omega (arith, last) in
        rw none IsUtf8-nil
    rest_utf8 (suc n) k h =
        subst IsUtf8
        (sym (parted values (at k) (at (k + 1)) (at count)
        (one_rises type offsets values count are k (omega arith)) (up (k + 1) (omega arith)) within))
        (IsUtf8-append _ _ (one_utf8 k (omega arith)) (rest_utf8 n (k + 1) (omega arith)))

    pub whole_utf8 : IsUtf8 whole
    whole_utf8 = rest_utf8 count 0 (omega arith)

    pub are_boundaries : AreBoundaries type offsets (at 0) whole count
    are_boundaries = λ k h.
        let low = above k (omega arith) in
        let high = up k (omega arith) in
        let i = at k - at 0 in
        let back : drop i whole ≡ slice_range values (at 0 + i) (at count) =
        drop-slice_range values (at 0) (at count) i (omega arith) in
        let place : at 0 + i ≡ at k = omega arith in
        let long = length-slice_range values (at 0) (at count) within in
        IsCharBoundary-from_drop whole i (omega arith)
        (rw (back, place) (rest_utf8 (count - k) k (omega arith)))

  -- the text between two cuts
  module _ (utf8 : IsUtf8 whole) (cut : AreBoundaries type offsets (at 0) whole count) where
    cut_at : (n k : ℕ) → k + n ≡ count → IsCharBoundary whole (at k - at 0)
    cut_at zero k h =
        let end : k ≡ count = omega arith in
        let last : at k ≡ at count = ap at end in
        let long : length whole ≡ at k - at 0 =
        length-slice_range values (at 0) (at count) within ∙ ap (λ n. n - at 0) (sym last) in
        subst (IsCharBoundary whole) long (IsCharBoundary-end whole)
    cut_at (suc n) k h = cut k (omega arith)

    one_text : (k : ℕ) → k < count → is_utf8 (text_at type offsets values k) ≡ true
    one_text k h =
        let low = above k (omega arith) in
        let rises = one_rises type offsets values count are k h in
        let high = up (k + 1) (omega arith) in
        let i = at k - at 0 in
        let j = at (k + 1) - at 0 in
        let inside : slice_range whole i j ≡ slice_range values (at 0 + i) (at 0 + j) =
        slice_range-slice_range values (at 0) (at count) i j (omega arith) (omega arith) in
        let start : at 0 + i ≡ at k = omega arith in
        let end : at 0 + j ≡ at (k + 1) = omega arith in
        let is : slice_range whole i j ≡ text_at type offsets values k =
        inside ∙ rw (start, end) refl in
        is_utf8-from_IsUtf8 _ (subst IsUtf8 is
        (IsUtf8-between whole i j utf8 (omega arith) (cut_at (count - k) k (omega arith))
        (cut_at (count - (k + 1)) (k + 1) (omega arith))))

    pub each_utf8 : are_utf8 type offsets values count ≡ true
    each_utf8 = all_rows (λ k. is_utf8 (text_at type offsets values k)) 0 count
        (λ k h. one_text (0 + k) (omega arith))

  -- what the two steps tell
  pub not_whole : (IsUtf8 whole → ⊥) → false ≡ are_utf8 type offsets values count
  not_whole h = sym (false_from_ne_true _ (λ each. h (whole_utf8 each)))

  pub by_cuts : (r : Bool) → IsUtf8 whole
      → IsTrue r ↔ AreBoundaries type offsets (at 0) whole count
      → r ≡ are_utf8 type offsets values count
  by_cuts true utf8 h = sym (each_utf8 utf8 (h.0 refl))
  by_cuts false utf8 h =
      sym (false_from_ne_true _ (λ each. apart (h.1 (are_boundaries each))))

  -- the same of the bytes between two offsets that are the first and the last
  module _ (s e : ℕ) (first : s ≡ at 0) (last : e ≡ at count) where
    same : slice_range values s e ≡ whole
    same = ap (λ (n : ℕ). slice_range values n e) first
        ∙ ap (λ (n : ℕ). slice_range values (at 0) n) last

    pub no_text : (IsUtf8 (slice_range values s e) → ⊥) → false ≡ are_utf8 type offsets values count
    no_text h = not_whole (λ u. h (subst IsUtf8 (sym same) u))

    pub text_cuts : (text : List ℕ) (r : Bool) → text ≡ slice_range values s e
        → IsUtf8 (slice_range values s e)
        → IsTrue r ↔ AreBoundaries type offsets s text count
        → r ≡ are_utf8 type offsets values count
    text_cuts text r is utf8 h =
        by_cuts r (subst IsUtf8 same utf8)
        (subst (λ (xs : List ℕ). IsTrue r ↔ AreBoundaries type offsets (at 0) xs count) (is ∙ same)
        (subst (λ (n : ℕ). IsTrue r ↔ AreBoundaries type offsets n text count) first h))
