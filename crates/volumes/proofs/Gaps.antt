-- How large the gap between a point and a box can be.
use Rattle.std.proofs.Common.{arith, ap, false, ◌∙◌, lit≤, lit<, refl, subst, sym, ◌≡◌, ℕ, zero, suc, ◌+◌, ◌-◌, ◌*◌, ◌/◌}
use Rattle.std.proofs.Common.{◌^◌, ◌<◌, ◌≤◌, ◌==◌, ◌+ℤ◌, ◌*ℤ◌, pos, unsigned_abs, if◌then◌else◌}
use Rattle.std.proofs.Math.Nat.{mul-div_cancel_left, mul-sub, mul_comm}
use Rattle.std.proofs.lemmas.Bool.Decides.{nat_tests}
use Rattle.std.proofs.lemmas.Int.{ints, unsigned_abs-mul}
use Rattle.std.proofs.lemmas.Nat.{mul-le}
use Rattle.fixed_geometry.specs.declared.point.Point.{Point}
use Rattle.fixed_geometry.specs.Points.{IsWithin, component_limit, coordinate_limit, difference}
use Rattle.fixed_geometry.specs.Points.{norm}
use Rattle.fixed_geometry.specs.Root.{ceiling_root}
use Rattle.fixed_geometry.proofs.Sizes.{abs_product, abs_sum, difference_size, norm_size}
use Rattle.fixed_geometry.proofs.RootFacts.{below_root}
use Rattle.volumes.specs.Distances.{along, gap, squared}
use Rattle.volumes.proofs.RootBounds.{ceiling_root_of_square}

-- q goes no farther along the axis than three times its greatest component times r, which is at
-- least the axis's length
pub along_size : (q axis : Point) (r : ℕ) → IsWithin (2 * coordinate_limit) q → norm axis ≤ r * r
    → along q axis ≤ r * (3 * (2 * coordinate_limit))
along_size q a r within root =
    let x = below_root (norm a) r (unsigned_abs a.x) root (omega arith) in
    let y = below_root (norm a) r (unsigned_abs a.y) root (omega arith) in
    let z = below_root (norm a) r (unsigned_abs a.z) root (omega arith) in
    let dx = abs_product q.x a.x (2 * coordinate_limit) r within.x x in
    let dy = abs_product q.y a.y (2 * coordinate_limit) r within.y y in
    let dz = abs_product q.z a.z (2 * coordinate_limit) r within.z z in
    omega (
      arith,
      abs_sum (q.x *ℤ a.x) (q.y *ℤ a.y),
      abs_sum (q.x *ℤ a.x +ℤ q.y *ℤ a.y) (q.z *ℤ a.z),
    )

-- the square of the distance between two points within the limit of coordinates
pub squared_apart_size : (p q : Point) → IsWithin coordinate_limit p → IsWithin coordinate_limit q
    → norm (difference p q) < 2 ^ 80
squared_apart_size p q h g =
    omega (
      arith,
      norm_size (difference p q) (2 * coordinate_limit)
          (difference_size p q coordinate_limit coordinate_limit h g),
    )

-- within one limit, and so within a greater one
wider : (p : Point) (m n : ℕ) → m ≤ n → IsWithin m p → IsWithin n p
wider p m n h g = record { x = omega (arith, g.x); y = omega (arith, g.y); z = omega (arith, g.z) }

pub difference_within : (p q d : Point) → d ≡ difference p q → IsWithin coordinate_limit p
    → IsWithin coordinate_limit q → IsWithin component_limit d
difference_within p q d e h g =
    let P : Point → Type 0 = λ d. IsWithin component_limit d in
    subst P (sym e) (wider (difference p q) (2 * coordinate_limit) component_limit (lit≤ tt)
    (difference_size p q coordinate_limit coordinate_limit h g))

-- three squares of gaps fit 128 bits
pub three_squares : (x y z : ℕ) → x ≤ 2 ^ 39 → y ≤ 2 ^ 39 → z ≤ 2 ^ 39
    → squared x + squared y + squared z < 2 ^ 80
three_squares x y z h g k =
    omega (
      arith,
      mul-le x x (2 ^ 39) (2 ^ 39) h h,
      mul-le y y (2 ^ 39) (2 ^ 39) g g,
      mul-le z z (2 ^ 39) (2 ^ 39) k k,
    )

-- ---- half axes of which two components are zero

not_zero : (n : ℕ) → 0 < n → (n == 0) ≡ false
not_zero n h = grind (arith, nat_tests)

straight : (a h : ℕ)
    → (if h * h == 0 then 0 else (a * h - h * h) / ceiling_root (h * h))
    ≡ (if h == 0 then 0 else a - h)
straight a zero = refl
straight a (suc h) =
    let both : a * suc h - suc h * suc h ≡ suc h * (a - suc h) =
    ap (λ n. n - suc h * suc h) (mul_comm a (suc h)) ∙ sym (mul-sub (suc h) a (suc h)) in
    let some : (suc h * suc h == 0) ≡ false = not_zero (suc h * suc h) (omega arith) in
    let long : (suc h == 0) ≡ false = not_zero (suc h) (omega arith) in
    rw (some, long, both, ceiling_root_of_square (suc h))
    (mul-div_cancel_left (a - suc h) (omega arith))

pub straight_x : (q axis : Point) → axis.y ≡ pos 0 → axis.z ≡ pos 0
    → gap q axis ≡ (if unsigned_abs axis.x == 0 then 0 else unsigned_abs q.x - unsigned_abs axis.x)
straight_x q axis y z =
    let length : norm axis ≡ unsigned_abs axis.x * unsigned_abs axis.x = rw (y, z) (omega arith) in
    let reach : along q axis ≡ unsigned_abs q.x * unsigned_abs axis.x =
    rw (y, z) (omega (arith, ints, unsigned_abs-mul q.x axis.x)) in
    rw (length, reach) (straight (unsigned_abs q.x) (unsigned_abs axis.x))

pub straight_y : (q axis : Point) → axis.x ≡ pos 0 → axis.z ≡ pos 0
    → gap q axis ≡ (if unsigned_abs axis.y == 0 then 0 else unsigned_abs q.y - unsigned_abs axis.y)
straight_y q axis x z =
    let length : norm axis ≡ unsigned_abs axis.y * unsigned_abs axis.y = rw (x, z) (omega arith) in
    let reach : along q axis ≡ unsigned_abs q.y * unsigned_abs axis.y =
    rw (x, z) (omega (arith, ints, unsigned_abs-mul q.y axis.y)) in
    rw (length, reach) (straight (unsigned_abs q.y) (unsigned_abs axis.y))

pub straight_z : (q axis : Point) → axis.x ≡ pos 0 → axis.y ≡ pos 0
    → gap q axis ≡ (if unsigned_abs axis.z == 0 then 0 else unsigned_abs q.z - unsigned_abs axis.z)
straight_z q axis x y =
    let length : norm axis ≡ unsigned_abs axis.z * unsigned_abs axis.z = rw (x, y) (omega arith) in
    let reach : along q axis ≡ unsigned_abs q.z * unsigned_abs axis.z =
    rw (x, y) (omega (arith, ints, unsigned_abs-mul q.z axis.z)) in
    rw (length, reach) (straight (unsigned_abs q.z) (unsigned_abs axis.z))
