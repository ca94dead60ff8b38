-- No rounded quotient by a power of two is larger than what is divided.
use Rattle.std.proofs.Common.{arith, ◌≡◌, ℕ, ◌+◌, ◌-◌, ◌*◌, ◌/◌, ◌<◌, ◌≤◌, ℤ, pos, negsuc, lit<, refl}
use Rattle.std.proofs.Common.{unsigned_abs}
use Rattle.std.proofs.lemmas.Int.{ints}
use Rattle.std.proofs.Math.Nat.{mul-le-mul_left, mul_comm, one-le-pow, pow-le-pow_right}
use Rattle.std.proofs.lemmas.Nat.{div_below}
use Rattle.fixed_geometry.specs.declared.point.Point.{Point}
use Rattle.fixed_geometry.specs.Points.{IsWithin}
use Rattle.fixed_geometry.specs.Quotient.{half, half_size, signed_as, up, up_size}
use Rattle.fixed_geometry.proofs.Quotients.{half_size_le}
use Rattle.volumes.specs.Cells.{cell_count}

some : (level : ℕ) → 0 < cell_count level
some level = one-le-pow level 2 (lit< tt)

up_size_le : (n d : ℕ) → 0 < d → up_size n d ≤ n
up_size_le n d h =
    let m : n * 1 ≤ n * d = mul-le-mul_left n h in
    let small : n + (d - 1) < (n + 1) * d = omega arith in
    let q : up_size n d < n + 1 = div_below (n + (d - 1)) d (n + 1) h small in
    omega arith

signed_size : (z : ℤ) (n : ℕ) → unsigned_abs (signed_as z n) ≡ n
signed_size (pos _) n = refl
signed_size (negsuc _) n = omega (arith, ints)

pub half_no_larger : (n : ℤ) (level : ℕ)
    → unsigned_abs (half n (cell_count level)) ≤ unsigned_abs n
half_no_larger n level =
    let size = half_size (unsigned_abs n) (cell_count level) in
    rw (signed_size n size) (half_size_le (unsigned_abs n) (cell_count level) (some level))

pub up_no_larger : (n : ℤ) (level : ℕ) → unsigned_abs (up n (cell_count level)) ≤ unsigned_abs n
up_no_larger n level =
    let size = up_size (unsigned_abs n) (cell_count level) in
    rw (signed_size n size) (up_size_le (unsigned_abs n) (cell_count level) (some level))

-- within the offsets of a level, and so within those of a deeper one
pub within_deeper : (p : Point) (level deeper : ℕ) → level ≤ deeper → IsWithin (cell_count level) p
    → IsWithin (cell_count deeper) p
within_deeper p level deeper h g =
    let most : cell_count level ≤ cell_count deeper = pow-le-pow_right (lit< tt) h in
    record { x = omega (arith, g.x); y = omega (arith, g.y); z = omega (arith, g.z) }
