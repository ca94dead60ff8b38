-- Bounds on a square root that is rounded down, by squares.
use Rattle.std.proofs.Common.{arith, ◌≡◌, ◌∙◌, ℕ, ◌+◌, ◌*◌, ◌<◌, ◌≤◌, ◌-◌, ◌^◌, ◌==◌, ltb, leb, min}
use Rattle.std.proofs.Common.{⊎_elim, ap, sym, if◌then◌else◌}
use Rattle.std.proofs.Math.Nat.{mul-le-mul}
use Rattle.std.proofs.lemmas.Bool.{cases_lt}
use Rattle.std.proofs.lemmas.Bool.Decides.{nat_tests}
use Rattle.fixed_geometry.specs.Root.{floor_root, ceiling_root}
use Rattle.fixed_geometry.proofs.RootFacts.{floor_root-is, is_floor_root}
use Rattle.volumes.specs.Distances.{squared}

-- below the square of m + 1 the root is at most m
pub root_at_most : (n m : ℕ) → n < squared (m + 1) → floor_root n ≤ m
root_at_most n m h =
    let f = floor_root-is n in
    ⊎_elim
    (λ (k : m < floor_root n). let e : (m + 1) * (m + 1) ≤ floor_root n * floor_root n =
    mul-le-mul (omega arith) (omega arith) in absurd (omega (arith, f.square)))
    (λ (k : floor_root n ≤ m). k)
    (cases_lt m (floor_root n))

pub below_next_square : (n m : ℕ) → floor_root n ≤ m → n < squared (m + 1)
below_next_square n m h =
    let f = floor_root-is n in
    let e : (floor_root n + 1) * (floor_root n + 1) ≤ (m + 1) * (m + 1) =
    mul-le-mul (omega arith) (omega arith) in
    omega (arith, f.next)

-- a number below 2^128 has a root below 2^64
pub root_fits : (n : ℕ) → n < 2 ^ 128 → floor_root n < 2 ^ 64
root_fits n h = let most : floor_root n ≤ 2 ^ 64 - 1 = root_at_most n (2 ^ 64 - 1) (omega arith) in
    omega arith

-- a number below 2^80 has a root of at most 2^40
pub root_of_80_bits : (n : ℕ) → n < 2 ^ 80 → floor_root n ≤ 2 ^ 40
root_of_80_bits n h = root_at_most n (2 ^ 40) (omega arith)

-- the test of squares decides the bound on the root
pub square_test : (n m : ℕ) → ltb n (squared (m + 1)) ≡ leb (floor_root n) m
square_test n m = ⊎_elim
    (λ (h : n < squared (m + 1)). let k = root_at_most n m h in grind (arith, nat_tests))
    (λ (h : squared (m + 1) ≤ n). ⊎_elim
    (λ (k : m < floor_root n). grind (arith, nat_tests))
    (λ (k : floor_root n ≤ m). let e = below_next_square n m k in absurd (omega arith))
    (cases_lt m (floor_root n)))
    (cases_lt n (squared (m + 1)))

-- what is below a bound after r is taken off is below the bound and r together
pub reach_test : (root r bound : ℕ) → root < 2 ^ 64
    → leb root (min (bound + r) (2 ^ 64 - 1)) ≡ leb (root - r) bound
reach_test root r bound h = ⊎_elim
    (λ (g : bound < root - r). grind (arith, nat_tests))
    (λ (g : root - r ≤ bound). grind (arith, nat_tests))
    (cases_lt bound (root - r))

-- ---- roots of squares

pub floor_root_of_square : (n : ℕ) → floor_root (squared n) ≡ n
floor_root_of_square n = sym (is_floor_root (n * n) n (omega arith) (omega arith))

ceiling_step : (r n : ℕ) → r ≡ n → (if r * r == n * n then r else r + 1) ≡ n
ceiling_step r n e = rw e (grind (arith, nat_tests))

pub ceiling_root_of_square : (n : ℕ) → ceiling_root (n * n) ≡ n
ceiling_root_of_square n = ceiling_step (floor_root (n * n)) n (floor_root_of_square n)

pub root_of_first : (a b c : ℕ) → b ≡ 0 → c ≡ 0
    → floor_root (squared a + squared b + squared c) ≡ a
root_of_first a b c e f =
    let one : squared a + squared b + squared c ≡ squared a = rw (e, f) (omega arith) in
    ap floor_root one ∙ floor_root_of_square a

pub root_of_second : (a b c : ℕ) → a ≡ 0 → c ≡ 0
    → floor_root (squared a + squared b + squared c) ≡ b
root_of_second a b c e f =
    let one : squared a + squared b + squared c ≡ squared b = rw (e, f) (omega arith) in
    ap floor_root one ∙ floor_root_of_square b

pub root_of_third : (a b c : ℕ) → a ≡ 0 → b ≡ 0
    → floor_root (squared a + squared b + squared c) ≡ c
root_of_third a b c e f =
    let one : squared a + squared b + squared c ≡ squared c = rw (e, f) (omega arith) in
    ap floor_root one ∙ floor_root_of_square c
