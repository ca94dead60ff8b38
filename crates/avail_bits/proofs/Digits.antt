-- Morton numbers by the digits of each place alone, and back.
use Rattle.std.proofs.Common.{◌≡◌, ℕ, zero, suc, ◌+◌, ◌*◌, ◌/◌, ◌%◌, ◌^◌, ◌<◌, ◌≤◌, refl, ap, ap₂}
use Rattle.std.proofs.Common.{◌∙◌, arith}
use Rattle.std.proofs.Math.Nat.{pow-suc}
use Rattle.avail_bits.specs.Spread.{spread, gather}
use Rattle.avail_bits.specs.Morton.{interleaved2, interleaved3}

pub interleaved2_is : (k x y : ℕ) → interleaved2 k x y ≡ spread 4 k x + 2 * spread 4 k y
unfolding interleaved2 spread
interleaved2_is zero x y = refl
interleaved2_is (suc k) x y =
    rw (interleaved2_is k (x / 2) (y / 2)) (step (x % 2) (y % 2) (spread 4 k (x / 2))
    (spread 4 k (y / 2))) where
      step : (a b p q : ℕ) → a + 2 * b + 4 * (p + 2 * q) ≡ a + 4 * p + 2 * (b + 4 * q)
      step a b p q = omega arith

pub interleaved3_is : (k x y z : ℕ) → interleaved3 k x y z ≡ spread 8 k x + 2 * spread 8 k y
    + 4 * spread 8 k z
unfolding interleaved3 spread
interleaved3_is zero x y z = refl
interleaved3_is (suc k) x y z =
    rw (interleaved3_is k (x / 2) (y / 2) (z / 2))
    (step (x % 2) (y % 2) (z % 2) (spread 8 k (x / 2)) (spread 8 k (y / 2))
    (spread 8 k (z / 2))) where
      step : (a b c p q r : ℕ) → a + 2 * b + 4 * c + 8 * (p + 2 * q + 4 * r) ≡ a + 8 * p
          + 2 * (b + 8 * q) + 4 * (c + 8 * r)
      step a b c p q r = omega arith

pub spread4_below : (k x : ℕ) → 3 * spread 4 k x < 4 ^ k
unfolding spread
spread4_below zero x = omega arith
spread4_below (suc k) x =
    rw (pow-suc 4 k) (step (x % 2) (spread 4 k (x / 2)) (4 ^ k) (omega arith)
    (spread4_below k (x / 2))) where
      step : (a p t : ℕ) → a < 2 → 3 * p < t → 3 * (a + 4 * p) < t * 4
      step a p t h g = omega arith

pub spread8_below : (k x : ℕ) → 7 * spread 8 k x < 8 ^ k
unfolding spread
spread8_below zero x = omega arith
spread8_below (suc k) x =
    rw (pow-suc 8 k) (step (x % 2) (spread 8 k (x / 2)) (8 ^ k) (omega arith)
    (spread8_below k (x / 2))) where
      step : (a p t : ℕ) → a < 2 → 7 * p < t → 7 * (a + 8 * p) < t * 8
      step a p t h g = omega arith

low : (a g : ℕ) → (a % 2 + 2 * g) % 2 ≡ a % 2
low a g = omega arith

high : (a g : ℕ) → (a % 2 + 2 * g) / 2 ≡ g
high a g = omega arith

pub interleaved2-gather : (k m : ℕ) → m < 4 ^ k
    → interleaved2 k (gather 4 k m) (gather 4 k (m / 2)) ≡ m
unfolding interleaved2 gather
interleaved2-gather zero m h = omega arith
interleaved2-gather (suc k) m h =
    rw (
      low m (gather 4 k (m / 4)),
      low (m / 2) (gather 4 k (m / 2 / 4)),
      high m
          (gather 4 k (m / 4)),
      high (m / 2) (gather 4 k (m / 2 / 4)),
      turned m,
    )
    (rw (interleaved2-gather k (m / 4) (below m (4 ^ k) (rw (pow-suc 4 k) at h))) (whole m)) where
      turned : (m : ℕ) → m / 2 / 4 ≡ m / 4 / 2
      turned m = omega arith

      below : (m t : ℕ) → m < t * 4 → m / 4 < t
      below m t h = omega arith

      whole : (m : ℕ) → m % 2 + 2 * (m / 2 % 2) + 4 * (m / 4) ≡ m
      whole m = omega arith

pub interleaved3-gather : (k m : ℕ) → m < 8 ^ k → interleaved3 k (gather 8 k m) (gather 8 k (m / 2))
    (gather 8 k (m / 4)) ≡ m
unfolding interleaved3 gather
interleaved3-gather zero m h = omega arith
interleaved3-gather (suc k) m h =
    rw (
      low m (gather 8 k (m / 8)),
      low (m / 2) (gather 8 k (m / 2 / 8)),
      low (m / 4)
          (gather 8 k (m / 4 / 8)),
      high m (gather 8 k (m / 8)),
      high (m / 2)
          (gather 8 k (m / 2 / 8)),
      high (m / 4) (gather 8 k (m / 4 / 8)),
      turned2 m,
      turned4 m,
    )
    (rw (interleaved3-gather k (m / 8) (below m (8 ^ k) (rw (pow-suc 8 k) at h))) (whole m)) where
      turned2 : (m : ℕ) → m / 2 / 8 ≡ m / 8 / 2
      turned2 m = omega arith

      turned4 : (m : ℕ) → m / 4 / 8 ≡ m / 8 / 4
      turned4 m = omega arith

      below : (m t : ℕ) → m < t * 8 → m / 8 < t
      below m t h = omega arith

      whole : (m : ℕ) → m % 2 + 2 * (m / 2 % 2) + 4 * (m / 4 % 2) + 8 * (m / 8) ≡ m
      whole m = omega arith

-- ---- one place has one number
halves_below : (x t : ℕ) → x < t * 2 → x / 2 < t
halves_below x t h = omega arith

same_halves : (x v : ℕ) → x % 2 ≡ v % 2 → x / 2 ≡ v / 2 → x ≡ v
same_halves x v e f = omega arith

below_one : (x v : ℕ) → x < 1 → v < 1 → x ≡ v
below_one x v h g = omega arith

pub same_places2 : (k x y v w : ℕ) → x < 2 ^ k → y < 2 ^ k → v < 2 ^ k → w < 2 ^ k
    → interleaved2 k x y ≡ interleaved2 k v w → (x ≡ v) × (y ≡ w)
unfolding interleaved2
same_places2 zero x y v w hx hy hv hw e = (below_one x v hx hv, below_one y w hy hw)
same_places2 (suc k) x y v w hx hy hv hw e =
    let digits = step (x % 2) (y % 2) (interleaved2 k (x / 2) (y / 2)) (v % 2) (w % 2)
    (interleaved2 k (v / 2) (w / 2)) (omega arith) (omega arith) (omega arith)
    (omega arith) e in
    let rest = same_places2 k (x / 2) (y / 2) (v / 2) (w / 2) (halved x hx) (halved y hy)
    (halved v hv) (halved w hw) digits.2 in
    (same_halves x v digits.0 rest.0, same_halves y w digits.1 rest.1) where
      halved : (x : ℕ) → x < 2 ^ suc k → x / 2 < 2 ^ k
      halved x h = halves_below x (2 ^ k) (rw (pow-suc 2 k) at h)

      step : (a b p c d q : ℕ) → a < 2 → b < 2 → c < 2 → d < 2 → a + 2 * b + 4 * p ≡ c + 2 * d
          + 4 * q → (a ≡ c) × (b ≡ d) × (p ≡ q)
      step a b p c d q ha hb hc hd e = (omega arith, omega arith, omega arith)

pub same_places3 : (k x y z u v w : ℕ) → x < 2 ^ k → y < 2 ^ k → z < 2 ^ k → u < 2 ^ k → v < 2 ^ k
    → w < 2 ^ k
    → interleaved3 k x y z ≡ interleaved3 k u v w → (x ≡ u) × (y ≡ v) × (z ≡ w)
unfolding interleaved3
same_places3 zero x y z u v w hx hy hz hu hv hw e =
    (below_one x u hx hu, below_one y v hy hv, below_one z w hz hw)
same_places3 (suc k) x y z u v w hx hy hz hu hv hw e =
    let digits = step (x % 2) (y % 2) (z % 2) (interleaved3 k (x / 2) (y / 2) (z / 2)) (u % 2)
    (v % 2) (w % 2) (interleaved3 k (u / 2) (v / 2) (w / 2)) (omega arith) (omega arith)
    (omega arith) (omega arith) (omega arith) (omega arith) e in
    let rest = same_places3 k (x / 2) (y / 2) (z / 2) (u / 2) (v / 2) (w / 2) (halved x hx)
    (halved y hy) (halved z hz) (halved u hu) (halved v hv) (halved w hw) digits.3 in (
      same_halves x u digits.0 rest.0,
      same_halves y v digits.1 rest.1,
      same_halves z w digits.2
          rest.2,
    ) where
      halved : (x : ℕ) → x < 2 ^ suc k → x / 2 < 2 ^ k
      halved x h = halves_below x (2 ^ k) (rw (pow-suc 2 k) at h)

      step : (a b c p d e f q : ℕ) → a < 2 → b < 2 → c < 2 → d < 2 → e < 2 → f < 2
          → a + 2 * b + 4 * c + 8 * p ≡ d + 2 * e + 4 * f + 8 * q
          → (a ≡ d) × (b ≡ e) × (c ≡ f) × (p ≡ q)
      step a b c p d e f q ha hb hc hd he hf s =
          (omega arith, omega arith, omega arith, omega arith)

-- ---- digits above the highest change nothing
all_zero2 : (k : ℕ) → interleaved2 k 0 0 ≡ 0
unfolding interleaved2
all_zero2 zero = refl
all_zero2 (suc k) = rw (all_zero2 k) refl

all_zero3 : (k : ℕ) → interleaved3 k 0 0 0 ≡ 0
unfolding interleaved3
all_zero3 zero = refl
all_zero3 (suc k) = rw (all_zero3 k) refl

pub more_digits2 : (k n x y : ℕ) → k ≤ n → x < 2 ^ k → y < 2 ^ k
    → interleaved2 n x y ≡ interleaved2 k x y
unfolding interleaved2
more_digits2 zero n x y h hx hy =
    let a : x ≡ 0 = omega arith in let b : y ≡ 0 = omega arith in ap₂ (interleaved2 n) a b
    ∙ all_zero2 n
more_digits2 (suc k) zero x y h hx hy = absurd (none k h) where
  none : (k : ℕ) → suc k ≤ zero → ⊥
  none k h = omega arith
more_digits2 (suc k) (suc n) x y h hx hy =
    ap (λ t. x % 2 + 2 * (y % 2) + 4 * t) (more_digits2 k n (x / 2) (y / 2) (omega arith)
    (halves_below x (2 ^ k) (rw (pow-suc 2 k) at hx))
    (halves_below y (2 ^ k) (rw (pow-suc 2 k) at hy)))

pub more_digits3 : (k n x y z : ℕ) → k ≤ n → x < 2 ^ k → y < 2 ^ k → z < 2 ^ k
    → interleaved3 n x y z ≡ interleaved3 k x y z
unfolding interleaved3
more_digits3 zero n x y z h hx hy hz =
    let a : x ≡ 0 = omega arith in let b : y ≡ 0 = omega arith in let c : z ≡ 0 = omega arith in
    rw (a, b, c) (all_zero3 n)
more_digits3 (suc k) zero x y z h hx hy hz = absurd (none k h) where
  none : (k : ℕ) → suc k ≤ zero → ⊥
  none k h = omega arith
more_digits3 (suc k) (suc n) x y z h hx hy hz =
    ap (λ t. x % 2 + 2 * (y % 2) + 4 * (z % 2) + 8 * t)
    (more_digits3 k n (x / 2) (y / 2) (z / 2) (omega arith)
    (halves_below x (2 ^ k) (rw (pow-suc 2 k) at hx))
    (halves_below y (2 ^ k) (rw (pow-suc 2 k) at hy))
    (halves_below z (2 ^ k) (rw (pow-suc 2 k) at hz)))
