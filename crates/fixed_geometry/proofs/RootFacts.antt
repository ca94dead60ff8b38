-- What the roots are.
use Rattle.std.proofs.Common.{◌≡◌, ℕ, zero, suc, ◌+◌, ◌*◌, ◌<◌, ◌≤◌, Bool, true, false, cond, leb}
use Rattle.std.proofs.Common.{◌==◌, ⊎_elim, refl, arith}
use Rattle.std.proofs.Math.Nat.{mul-le-mul}
use Rattle.std.proofs.lemmas.Bool.{cases_lt}
use Rattle.std.proofs.lemmas.Bool.Decides.{nat_tests}
use Rattle.fixed_geometry.specs.Root.{floor_root, ceiling_root}

pub record IsFloorRoot (n r : ℕ) : Type 0 where
  pub square : r * r ≤ n
  pub next : n < (r + 1) * (r + 1)

root_step : (b : Bool) (r n : ℕ) → leb ((r + 1) * (r + 1)) (suc n) ≡ b → IsFloorRoot n r
    → IsFloorRoot (suc n) (cond b (r + 1) r)
root_step true r n e h = let is : (r + 1) * (r + 1) ≤ suc n = grind (arith, nat_tests) in
    record { square = is; next = omega (arith, h.next) }
root_step false r n e h = let is : suc n < (r + 1) * (r + 1) = grind (arith, nat_tests) in
    record { square = omega (arith, h.square); next = is }

pub floor_root-is : (n : ℕ) → IsFloorRoot n (floor_root n)
unfolding floor_root
floor_root-is zero = record { square = omega arith; next = omega arith }
floor_root-is (suc n) = root_step (leb ((floor_root n + 1) * (floor_root n + 1)) (suc n))
    (floor_root n) n refl (floor_root-is n)

pub root_unique : (n r s : ℕ) → r * r ≤ n → n < (r + 1) * (r + 1) → s * s ≤ n
    → n < (s + 1) * (s + 1) → r ≡ s
root_unique n r s a b c d = ⊎_elim
    (λ (h : r < s). let m : (r + 1) * (r + 1) ≤ s * s = mul-le-mul (omega arith) (omega arith) in
    absurd (omega arith))
    (λ (h : s ≤ r). ⊎_elim
    (λ (g : s < r). let m : (s + 1) * (s + 1) ≤ r * r = mul-le-mul (omega arith) (omega arith) in
    absurd (omega arith))
    (λ (g : r ≤ s). omega arith)
    (cases_lt s r))
    (cases_lt r s)

pub is_floor_root : (n r : ℕ) → r * r ≤ n → n < (r + 1) * (r + 1) → r ≡ floor_root n
is_floor_root n r a b = let f = floor_root-is n in
    root_unique n r (floor_root n) a b f.square f.next

pub below_root : (n m f : ℕ) → n ≤ m * m → f * f ≤ n → f ≤ m
below_root n m f h g = ⊎_elim
    (λ (k : m < f). let e : (m + 1) * (m + 1) ≤ f * f = mul-le-mul (omega arith) (omega arith) in
    absurd (omega arith))
    (λ (k : f ≤ m). k)
    (cases_lt m f)

least_step : (b : Bool) (n m f : ℕ) → (f * f == n) ≡ b → n ≤ m * m → f * f ≤ n
    → cond b f (f + 1) ≤ m
least_step true n m f e h g = below_root n m f h g
least_step false n m f e h g = ⊎_elim
    (λ (k : f < m). omega arith)
    (λ (k : m ≤ f). let s : m * m ≤ f * f = mul-le-mul k k in let is : f * f ≡ n = omega arith in
    grind (arith, nat_tests))
    (cases_lt f m)

pub ceiling_root-least : (n m : ℕ) → n ≤ m * m → ceiling_root n ≤ m
ceiling_root-least n m h = least_step (floor_root n * floor_root n == n) n m (floor_root n) refl h
    (floor_root-is n).square
