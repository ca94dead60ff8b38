-- Bits as a list.
use Rattle.std.proofs.Common.{◌≡◌, ℕ, zero, suc, ◌+◌, ◌*◌, ◌<◌, ◌≤◌, Bool, true, false, cond, List}
use Rattle.std.proofs.Common.{[], ◌∷◌, ◌++◌, get_or, add-zero, map, take, length, replicate, refl}
use Rattle.std.proofs.Common.{sym, ap, ◌∙◌, arith}
use Rattle.std.specs.Prelude.{slice_get, Some}
use Rattle.std.specs.List.{range_with_len, count_by}
use Rattle.std.proofs.lemmas.List.FromFn.{length-map-range_with_len, take-map-range_with_len}
use Rattle.std.proofs.lemmas.List.FromFn.{sum_by-map-range_with_len_more, get_or-map-range_with_len}
use Rattle.std.proofs.lemmas.List.FromFn.{map-range_with_len_more}
use Rattle.std.proofs.lemmas.List.Sums.{sum_by-cons}
use Rattle.avail_bits.specs.Bitstreams.{bit_of, bits_of}
use Rattle.avail_bits.specs.Counts.{count_to, counts_of}

pub length-bits_of : (bytes : List ℕ) (count : ℕ) → length (bits_of bytes count) ≡ count
unfolding bits_of
length-bits_of bytes count = length-map-range_with_len (bit_of bytes) 0 count

none : (i : ℕ) → i < 0 → ⊥
none i h = omega arith

at_map : (f : ℕ → Bool) (a n i : ℕ) → i < n → slice_get (map f (range_with_len a n)) i
    ≡ Some (f (a + i))
at_map f a zero i h = absurd (none i h)
at_map f a (suc n) zero h = ap (λ t. Some (f t)) (sym (add-zero a))
at_map f a (suc n) (suc i) h = at_map f (a + 1) n i (omega arith)
    ∙ ap (λ t. Some (f t)) (next a i) where
      next : (a i : ℕ) → a + 1 + i ≡ a + suc i
      next a i = omega arith

pub at_bits_of : (bytes : List ℕ) (count i : ℕ) → i < count → slice_get (bits_of bytes count) i
    ≡ Some (bit_of bytes i)
unfolding bits_of
at_bits_of bytes count i h = at_map (bit_of bytes) 0 count i h ∙ ap (λ t. Some (bit_of bytes t))
    (first i) where
      first : (i : ℕ) → 0 + i ≡ i
      first i = omega arith

counted : (f : ℕ → Bool) (n : ℕ) → count_by (λ b. b) (map f (range_with_len 0 n)) ≡ count_to f n
unfolding count_to
counted f zero = refl
counted f (suc n) =
    ap (λ t. count_by (λ b. b) (map f (range_with_len 0 t))) (next n)
    ∙ sum_by-map-range_with_len_more (λ b. cond b 1 0) f 0 n n (first n)
    ∙ ap (λ t. t + cond (f n) 1 0) (counted f n) where
      next : (n : ℕ) → suc n ≡ n + 1
      next n = omega arith

      first : (i : ℕ) → 0 + i ≡ i
      first i = omega arith

pub rank_of_bits : (bytes : List ℕ) (count i : ℕ) → i ≤ count
    → count_by (λ b. b) (take i (bits_of bytes count)) ≡ count_to (bit_of bytes) i
unfolding bits_of
rank_of_bits bytes count i h =
    ap (count_by (λ b. b)) (take-map-range_with_len (bit_of bytes) 0 count i h)
    ∙ counted (bit_of bytes) i

-- ---- constants
pub at_replicate : (value : Bool) (n i : ℕ) → i < n → slice_get (replicate n value) i ≡ Some value
at_replicate value zero i h = absurd (none i h)
at_replicate value (suc n) zero h = refl
at_replicate value (suc n) (suc i) h = at_replicate value n i (omega arith)

take_replicate : (value : Bool) (n i : ℕ) → i ≤ n → take i (replicate n value) ≡ replicate i value
take_replicate value n zero h = refl
take_replicate value zero (suc i) h = absurd (none i (omega arith))
take_replicate value (suc n) (suc i) h =
    ap (λ t. value ∷ t) (take_replicate value n i (omega arith))

count_replicate : (value : Bool) (n : ℕ) → count_by (λ b. b) (replicate n value)
    ≡ n * cond value 1 0
count_replicate value zero = omega arith
count_replicate value (suc n) = sum_by-cons (λ b. cond b 1 0) value (replicate n value)
    ∙ ap (λ t. cond value 1 0 + t) (count_replicate value n) ∙ step n (cond value 1 0) where
      step : (n t : ℕ) → t + n * t ≡ suc n * t
      step n t = omega arith

pub rank_of_true : (n i : ℕ) → i ≤ n → count_by (λ b. b) (take i (replicate n true)) ≡ i
rank_of_true n i h = ap (count_by (λ b. b)) (take_replicate true n i h) ∙ count_replicate true i
    ∙ whole i where
      whole : (i : ℕ) → i * 1 ≡ i
      whole i = omega arith

pub rank_of_false : (n i : ℕ) → i ≤ n → count_by (λ b. b) (take i (replicate n false)) ≡ 0
rank_of_false n i h = ap (count_by (λ b. b)) (take_replicate false n i h) ∙ count_replicate false i
    ∙ none_of i where
      none_of : (i : ℕ) → i * 0 ≡ 0
      none_of i = omega arith

-- ---- the table
pub at_counts : (bytes : List ℕ) (words w d : ℕ) → w ≤ words → get_or (counts_of bytes words) w d
    ≡ count_to (bit_of bytes) (64 * w)
unfolding counts_of
at_counts bytes words w d h = get_or-map-range_with_len (λ w. count_to (bit_of bytes) (64 * w)) 0
    (words + 1) w w d (omega arith) (omega arith)

pub length-counts_of : (bytes : List ℕ) (words : ℕ) → length (counts_of bytes words) ≡ words + 1
unfolding counts_of
length-counts_of bytes words = length-map-range_with_len (λ w. count_to (bit_of bytes) (64 * w)) 0
    (words + 1)

pub no_words : (bytes : List ℕ) → 0 ∷ [] ≡ counts_of bytes 0
unfolding counts_of count_to
no_words bytes = refl

pub more_words : (bytes : List ℕ) (words : ℕ) → counts_of bytes (words + 1) ≡ counts_of bytes words
    ++ count_to (bit_of bytes) (64 * (words + 1)) ∷ []
unfolding counts_of
more_words bytes words = map-range_with_len_more (λ w. count_to (bit_of bytes) (64 * w)) 0
    (words + 1) (words + 1) (omega arith)
