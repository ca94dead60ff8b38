-- How many bits are set, by the words of a bitstream.
use Rattle.std.proofs.Common.{◌≡◌, ℕ, zero, suc, ◌+◌, ◌*◌, ◌/◌, ◌%◌, ◌^◌, ◌-◌, ◌<◌, ◌≤◌, ◌⊎◌, inl}
use Rattle.std.proofs.Common.{inr, Bool, true, false, cond, List, get_or, length, take, drop, refl}
use Rattle.std.proofs.Common.{sym, ap, ap₂, ◌∙◌, arith, add-zero}
use Rattle.std.specs.Prelude.{◌==◌, nat_eq}
use Rattle.std.specs.Int.{bit_at, w64, from_le_bytes}
use Rattle.std.specs.Int.RustNames.{count_ones}
use Rattle.std.proofs.lemmas.Nat.{ones_cat, mod-pow-add, mod_below, pow_pos}
use Rattle.std.proofs.lemmas.Nat.Bits.{bit_at_cat_low, bit_at_cat_high, bit_at-lt}
use Rattle.std.proofs.lemmas.Bool.{cases_lt}
use Rattle.std.proofs.lemmas.List.{get_or-take, get_or-drop}
use Rattle.avail_bits.specs.Bitstreams.{bit_of}
use Rattle.avail_bits.specs.Counts.{count_to, counts_of}
use Rattle.avail_bits.proofs.Listed.{at_counts}

-- ---- a word by its bytes
horner : (ℕ → ℕ) → ℕ → ℕ
horner b zero = 0
horner b (suc k) = b 0 + 256 * horner (λ i. b (suc i)) k

horner_bit : (k : ℕ) (b : ℕ → ℕ) → ((i : ℕ) → b i < 256) → (j : ℕ) → j < 8 * k
    → bit_at (horner b k) j ≡ bit_at (b (j / 8)) (j % 8)
unfolding horner
horner_bit zero b h j below = absurd (none j below) where
  none : (j : ℕ) → j < 8 * 0 → ⊥
  none j h = omega arith
horner_bit (suc k) b h j below =
    by_place (cases_lt j 8) (λ within. horner_bit k (λ i. b (suc i)) (λ i. h (suc i)) (j - 8)
    within) where
      turned : (r t : ℕ) → r + 256 * t ≡ t * 2 ^ 8 + r
      turned r t = omega arith

      by_place : (j < 8) ⊎ (8 ≤ j)
          → (j - 8 < 8 * k → bit_at (horner (λ i. b (suc i)) k) (j - 8) ≡ bit_at (b (suc ((j - 8) / 8)))
          ((j - 8) % 8))
          → bit_at (b 0 + 256 * horner (λ i. b (suc i)) k) j ≡ bit_at (b (j / 8)) (j % 8)
      by_place (inl low) rest =
          let first : j / 8 ≡ 0 = omega arith in
          let place : j % 8 ≡ j = omega arith in
          ap (λ t. bit_at t j) (turned (b 0) (horner (λ i. b (suc i)) k))
          ∙ bit_at_cat_low (horner (λ i. b (suc i)) k) 8 (b 0) j low
          ∙ ap₂ (λ p q. bit_at (b p) q) (sym first) (sym place)
      by_place (inr high) rest =
          let byte : suc ((j - 8) / 8) ≡ j / 8 = omega arith in
          let place : (j - 8) % 8 ≡ j % 8 = omega arith in
          let within : j - 8 < 8 * k = omega arith in
          ap (λ t. bit_at t j) (turned (b 0) (horner (λ i. b (suc i)) k))
          ∙ bit_at_cat_high (horner (λ i. b (suc i)) k) 8 (b 0) j (h 0) high
          ∙ rest within
          ∙ ap₂ (λ p q. bit_at (b p) q) byte place

pub word_bit : (bs : List ℕ) (b : ℕ → ℕ) → ((i : ℕ) → i < 8 → get_or bs i 0 ≡ b i)
    → ((i : ℕ) → b i < 256)
    → (j : ℕ) → j < 64 → bit_at (from_le_bytes w64 bs) j ≡ bit_at (b (j / 8)) (j % 8)
unfolding horner
word_bit bs b e h j below = ap (λ t. bit_at t j) whole ∙ horner_bit 8 b h j below where
  whole : from_le_bytes w64 bs ≡ horner b 8
  whole =
      omega (
        arith,
        e 0 (omega arith),
        e 1 (omega arith),
        e 2 (omega arith),
        e 3 (omega arith),
        e 4
            (omega arith),
        e 5 (omega arith),
        e 6 (omega arith),
        e 7 (omega arith),
      )

-- ---- counts
ones_digit : (d : ℕ) → d < 2 → count_ones d ≡ cond (nat_eq d 1) 1 0
unfolding count_ones
ones_digit zero h = refl
ones_digit (suc zero) h = refl
ones_digit (suc (suc d)) h = absurd (none d h) where
  none : (d : ℕ) → suc (suc d) < 2 → ⊥
  none d h = omega arith

-- set bits of a number below one of them
pub ones_below : (n r : ℕ) → count_ones (n % 2 ^ r) ≡ count_to (λ j. bit_at n j == 1) r
unfolding count_ones count_to
ones_below n zero = let e : n % 1 ≡ 0 = omega arith in ap count_ones e
ones_below n (suc r) = ap count_ones (split n r) ∙ ones_cat r (n / 2 ^ r % 2) (n % 2 ^ r)
    (mod_below n (2 ^ r) (pow_pos r)) ∙ joined (ones_below n r) where
      counted : (r : ℕ) → suc r ≡ 1 + r
      counted r = omega arith

      split : (n r : ℕ) → n % 2 ^ suc r ≡ n / 2 ^ r % 2 * 2 ^ r + n % 2 ^ r
      split n r = ap (λ t. n % 2 ^ t) (counted r) ∙ mod-pow-add n 1 r

      turned : (a b c d : ℕ) → a ≡ c → b ≡ d → a + b ≡ d + c
      turned a b c d e f = omega arith

      joined : count_ones (n % 2 ^ r) ≡ count_to (λ j. bit_at n j == 1) r
          → count_ones (n / 2 ^ r % 2) + count_ones (n % 2 ^ r) ≡ count_to (λ j. bit_at n j == 1) r
          + cond (nat_eq (n / 2 ^ r % 2) 1) 1 0
      joined e = turned _ _ _ _ (ones_digit (n / 2 ^ r % 2) (bit_at-lt n r)) e

-- bits from one place on
pub count_to-add : (f g : ℕ → Bool) (a r : ℕ) → ((j : ℕ) → j < r → f (a + j) ≡ g j)
    → count_to f (a + r) ≡ count_to f a + count_to g r
unfolding count_to
count_to-add f g a zero h = ap (count_to f) (add-zero a) ∙ sym (add-zero (count_to f a))
count_to-add f g a (suc r) h =
    ap (count_to f) (next a r) ∙ ap₂ (λ p q. p + cond q 1 0)
    (count_to-add f g a r (λ j below. h j (omega arith))) (h r (omega arith))
    ∙ grouped (count_to f a) (count_to g r) (cond (g r) 1 0) where
      next : (a r : ℕ) → a + suc r ≡ suc (a + r)
      next a r = omega arith

      grouped : (p q r : ℕ) → p + q + r ≡ p + (q + r)
      grouped p q r = omega arith

pub count_to_le : (f : ℕ → Bool) (n : ℕ) → count_to f n ≤ n
unfolding count_to
count_to_le f zero = omega arith
count_to_le f (suc n) = step (count_to f n) n (f n) (count_to_le f n) where
  step : (c n : ℕ) (b : Bool) → c ≤ n → c + cond b 1 0 ≤ suc n
  step c n true h = omega arith
  step c n false h = omega arith

-- a word's bits are those of its bytes
pub word_counts : (bytes : List ℕ) (w r n : ℕ) → r ≤ 64
    → ((j : ℕ) → j < 64 → bit_at n j ≡ bit_at (get_or bytes (8 * w + j / 8) 0) (j % 8))
    → count_to (bit_of bytes) (64 * w + r) ≡ count_to (bit_of bytes) (64 * w) + count_ones
    (n % 2 ^ r)
word_counts bytes w r n within e =
    count_to-add (bit_of bytes) (λ j. bit_at n j == 1) (64 * w) r
    (λ j below. at_place j (omega arith))
    ∙ ap (λ t. count_to (bit_of bytes) (64 * w) + t) (sym (ones_below n r)) where
      at_place : (j : ℕ) → j < 64 → bit_of bytes (64 * w + j) ≡ (bit_at n j == 1)
      at_place j below =
          let byte : (64 * w + j) / 8 ≡ 8 * w + j / 8 = omega arith in
          let place : (64 * w + j) % 8 ≡ j % 8 = omega arith in
          ap₂ (λ p q. bit_at (get_or bytes p 0) q == 1) byte place
          ∙ ap (λ t. t == 1) (sym (e j below))

-- eight bytes of a slice
pub chunk_at : (xs : List ℕ) (b i : ℕ) → b + 8 ≤ length xs → i < 8
    → get_or (take 8 (take (length xs - b) (drop b xs))) i 0 ≡ get_or xs (b + i) 0
chunk_at xs b i room below =
    get_or-take 8 (take (length xs - b) (drop b xs)) i 0 below ∙ get_or-take (length xs - b)
    (drop b xs) i 0 (omega arith) ∙ get_or-drop b xs i 0

-- the table's count and that of a part of one word
pub rank_here : (bytes : List ℕ) (count i : ℕ) (items : List ℕ) (got n part : ℕ) → i ≤ count
    → items ≡ counts_of bytes (count / 64)
    → got ≡ get_or items (i / 64) got
    → ((j : ℕ) → j < 64 → bit_at n j ≡ bit_at (get_or bytes (8 * (i / 64) + j / 8) 0) (j % 8))
    → part ≡ count_ones (n % 2 ^ (i % 64)) → got + part ≡ count_to (bit_of bytes) i
rank_here bytes count i items got n part within table read e counted =
    ap₂ (λ p q. p + q) (read ∙ ap (λ t. get_or t (i / 64) got) table ∙ at_counts bytes (count / 64)
    (i / 64) got (omega arith)) counted
    ∙ sym (word_counts bytes (i / 64) (i % 64) n (omega arith) e) ∙ ap (count_to (bit_of bytes))
    (whole i) where
      whole : (i : ℕ) → 64 * (i / 64) + i % 64 ≡ i
      whole i = omega arith
