-- Functions that keep `|`: two of them that agree on powers of 2 agree below a power of 2.
use Rattle.std.proofs.Common.{◌≡◌, ℕ, zero, suc, ◌+◌, ◌*◌, ◌/◌, ◌%◌, ◌^◌, ◌<◌, ◌≤◌, ◌⊎◌, inl, inr}
use Rattle.std.proofs.Common.{true, min, max, refl, sym, ap, ◌∙◌, subst, arith, add-zero}
use Rattle.std.proofs.Math.Nat.{pow-suc}
use Rattle.std.specs.Int.Bits.{bit_and, bit_or}
use Rattle.std.specs.Int.{bit_at}
use Rattle.std.proofs.lemmas.Nat.{or_shifted, or_shr, or_mod, or_block, pow_pos, shr_split}
use Rattle.std.proofs.lemmas.Nat.{shr_below, mod_below}
use Rattle.std.proofs.lemmas.Nat.Bits.{bit_at_and, bit_at_or, same_from_bits}
use Rattle.std.proofs.lemmas.Bool.{agree_below, agree_below_at, eqb-true}
use Rattle.std.specs.Prelude.{nat_eq}
use Rattle.avail_bits.specs.Spread.{spread, gather}

pub record IsLinear (f : ℕ → ℕ) : Type 0 where
  pub at_zero : f 0 ≡ 0
  pub at_or : (a b : ℕ) → f (bit_or a b) ≡ bit_or (f a) (f b)

and_or : (a b m : ℕ) → bit_and (bit_or a b) m ≡ bit_or (bit_and a m) (bit_and b m)
and_or a b m =
    same_from_bits _ _
    (λ i. simp (bit_at_and, bit_at_or) (middle (bit_at a i) (bit_at b i) (bit_at m i))) where
      middle : (p q r : ℕ) → min (max p q) r ≡ max (min p r) (min q r)
      middle p q r = omega arith

or_or : (a b c d : ℕ) → bit_or (bit_or a b) (bit_or c d) ≡ bit_or (bit_or a c) (bit_or b d)
or_or a b c d =
    same_from_bits _ _
    (λ i. simp bit_at_or (middle (bit_at a i) (bit_at b i) (bit_at c i) (bit_at d i))) where
      middle : (p q r s : ℕ) → max (max p q) (max r s) ≡ max (max p r) (max q s)
      middle p q r s = omega arith

or_shl : (a b k : ℕ) → bit_or a b * 2 ^ k ≡ bit_or (a * 2 ^ k) (b * 2 ^ k)
or_shl a b k = sym (simp add-zero at (or_block k a b 0 0 (pow_pos k) (pow_pos k)))

pub same : IsLinear (λ x. x)
same = record { at_zero = refl; at_or = λ a b. refl }

-- one step of the spread of digits, and one of their gathering
pub shl_step : (f : ℕ → ℕ) (s m : ℕ) → IsLinear f
    → IsLinear (λ x. bit_and (bit_or (f x) (f x * 2 ^ s % 2 ^ 64)) m)
shl_step f s m h = record {
  at_zero = rw h.at_zero (at_none (2 ^ s) m);
  at_or = λ a b. rw (
    h.at_or a b,
    or_shl (f a) (f b) s,
    or_mod (f a * 2 ^ s) (f b * 2 ^ s) 64,
    or_or
        (f a) (f b) (f a * 2 ^ s % 2 ^ 64) (f b * 2 ^ s % 2 ^ 64),
  ) (and_or _ _ m);
} where
  at_none : (t m : ℕ) → bit_and (bit_or 0 (0 * t % 2 ^ 64)) m ≡ 0
  at_none t m = let none : 0 * t % 2 ^ 64 ≡ 0 = omega arith in rw none refl

pub shr_step : (f : ℕ → ℕ) (s m : ℕ) → IsLinear f
    → IsLinear (λ x. bit_and (bit_or (f x) (f x / 2 ^ s)) m)
shr_step f s m h = record {
  at_zero = rw h.at_zero (at_none (2 ^ s) m);
  at_or =
      λ a b. rw (h.at_or a b, or_shr (f a) (f b) s, or_or (f a) (f b) (f a / 2 ^ s) (f b / 2 ^ s))
      (and_or _ _ m);
} where
  at_none : (t m : ℕ) → bit_and (bit_or 0 (0 / t)) m ≡ 0
  at_none t m = let none : 0 / t ≡ 0 = omega arith in rw none refl

pub and_step : (m : ℕ) → IsLinear (λ x. bit_and x m)
and_step m = record { at_zero = refl; at_or = λ a b. and_or a b m }

-- ---- two of them agree where they agree on powers of 2
at_digit : (f g : ℕ → ℕ) (k a : ℕ) → IsLinear f → IsLinear g → f (2 ^ k) ≡ g (2 ^ k) → a < 2
    → f (a * 2 ^ k) ≡ g (a * 2 ^ k)
at_digit f g k a hf hg e h = by_value (lowest a h) where
  lowest : (a : ℕ) → a < 2 → (a ≡ 0) ⊎ (a ≡ 1)
  lowest a h = grind arith

  by_value : (a ≡ 0) ⊎ (a ≡ 1) → f (a * 2 ^ k) ≡ g (a * 2 ^ k)
  by_value (inl z) = let none : a * 2 ^ k ≡ 0 = ap (λ x. x * 2 ^ k) z ∙ zero_times (2 ^ k) in
      rw none (hf.at_zero ∙ sym hg.at_zero) where
        zero_times : (t : ℕ) → 0 * t ≡ 0
        zero_times t = omega arith
  by_value (inr o) = let one : a * 2 ^ k ≡ 2 ^ k = ap (λ x. x * 2 ^ k) o ∙ one_times (2 ^ k) in
      rw one e where
        one_times : (t : ℕ) → 1 * t ≡ t
        one_times t = omega arith

pub same_linear : (f g : ℕ → ℕ) (k : ℕ) → IsLinear f → IsLinear g
    → ((i : ℕ) → i < k → f (2 ^ i) ≡ g (2 ^ i)) → (x : ℕ) → x < 2 ^ k → f x ≡ g x
same_linear f g zero hf hg e x h =
    let none : x ≡ 0 = omega arith in rw none (hf.at_zero ∙ sym hg.at_zero)
same_linear f g (suc k) hf hg e x h =
    joined (same_linear f g k hf hg (λ i below. e i (omega arith)) (x % 2 ^ k)
    (mod_below x (2 ^ k) (pow_pos k)))
    (at_digit f g k (x / 2 ^ k) hf hg (e k (omega arith))
    (shr_below x 1 k (subst (λ j. x < 2 ^ j) (counted k) h))) where
      counted : (k : ℕ) → suc k ≡ 1 + k
      counted k = omega arith

      joined : f (x % 2 ^ k) ≡ g (x % 2 ^ k) → f (x / 2 ^ k * 2 ^ k) ≡ g (x / 2 ^ k * 2 ^ k)
          → f x ≡ g x
      joined low high =
          let whole = or_shifted (x / 2 ^ k) k (x % 2 ^ k) (mod_below x (2 ^ k) (pow_pos k))
          ∙ shr_split x k in
          ap f (sym whole) ∙ hf.at_or _ _ ∙ ap (λ t. bit_or t (f (x % 2 ^ k))) high
          ∙ ap (λ t. bit_or (g (x / 2 ^ k * 2 ^ k)) t) low
          ∙ sym (hg.at_or _ _) ∙ ap g whole

-- the same, by a test that computes
pub same_by_test : (f g : ℕ → ℕ) (k : ℕ) → IsLinear f → IsLinear g
    → agree_below (λ i. nat_eq (f (2 ^ i)) (g (2 ^ i))) (λ _. true) k ≡ true → (x : ℕ) → x < 2 ^ k
    → f x ≡ g x
same_by_test f g k hf hg test x h =
    same_linear f g k hf hg
    (λ i below. eqb-true _ _ (agree_below_at (λ i. nat_eq (f (2 ^ i)) (g (2 ^ i))) (λ _. true) k
    i test below)) x h

-- ---- the definitions keep `|`
two_within : (d : ℕ) → 2 ≤ 2 ^ suc d
two_within d = omega (arith, pow-suc 2 d, pow_pos d)

turned : (r t a : ℕ) → r + t * a ≡ a * t + r
turned r t a = omega arith

none : (t : ℕ) → 0 + t * 0 ≡ 0
none t = omega arith

-- a digit below 2 with further digits above it
or_digit : (d p q r s : ℕ) → r < 2 → s < 2
    → bit_or r s + 2 ^ suc d * bit_or p q ≡ bit_or (r + 2 ^ suc d * p) (s + 2 ^ suc d * q)
or_digit d p q r s hr hs =
    let wide : 2 ≤ 2 ^ suc d = two_within d in
    let block = or_block (suc d) p q r s (below r (2 ^ suc d) hr wide)
    (below s (2 ^ suc d) hs wide) in
    turned (bit_or r s) (2 ^ suc d) (bit_or p q) ∙ sym block
    ∙ ap (λ t. bit_or t (q * 2 ^ suc d + s)) (sym (turned r (2 ^ suc d) p))
    ∙ ap (λ t. bit_or (r + 2 ^ suc d * p) t) (sym (turned s (2 ^ suc d) q)) where
      below : (r t : ℕ) → r < 2 → 2 ≤ t → r < t
      below r t h g = omega arith

low_digit : (a b : ℕ) → bit_or a b % 2 ≡ bit_or (a % 2) (b % 2)
low_digit a b = or_mod a b 1

digit_below : (a : ℕ) → a % 2 < 2
digit_below a = omega arith

pub spread_linear : (d k : ℕ) → IsLinear (spread (2 ^ suc d) k)
unfolding spread
spread_linear d zero = record { at_zero = refl; at_or = λ a b. refl }
spread_linear d (suc k) = record {
  at_zero = rw ((spread_linear d k).at_zero) (none (2 ^ suc d));
  at_or = λ a b. rw (low_digit a b, or_shr a b 1, (spread_linear d k).at_or (a / 2) (b / 2))
      (or_digit d (spread (2 ^ suc d) k (a / 2)) (spread (2 ^ suc d) k (b / 2)) (a % 2) (b % 2)
      (digit_below a) (digit_below b));
}

pub gather_linear : (d k : ℕ) → IsLinear (gather (2 ^ d) k)
unfolding gather
gather_linear d zero = record { at_zero = refl; at_or = λ a b. refl }
gather_linear d (suc k) = record {
  at_zero = rw (quotient (2 ^ d), (gather_linear d k).at_zero) refl;
  at_or = λ a b. rw (low_digit a b, or_shr a b d, (gather_linear d k).at_or (a / 2 ^ d) (b / 2 ^ d))
      (or_digit 0 (gather (2 ^ d) k (a / 2 ^ d)) (gather (2 ^ d) k (b / 2 ^ d)) (a % 2) (b % 2)
      (digit_below a) (digit_below b));
} where
  quotient : (t : ℕ) → 0 / t ≡ 0
  quotient t = omega arith
