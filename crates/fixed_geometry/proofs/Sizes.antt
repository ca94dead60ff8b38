-- The sizes of sums and products of signed numbers.
use Rattle.std.proofs.Common.{◌≡◌, ℕ, ◌+◌, ◌*◌, ◌^◌, ◌≤◌, arith, sym, ℤ, ◌+ℤ◌, ◌-ℤ◌, ◌*ℤ◌}
use Rattle.std.proofs.Common.{unsigned_abs, w64, subst}
use Rattle.std.specs.Prelude.{FitsSigned}
use Rattle.std.proofs.lemmas.Int.{ints, unsigned_abs-mul, fits_signed_from_abs}
use Rattle.std.proofs.lemmas.Nat.{mul-le}
use mir.Val.{to_z, of_z}
use mir.Syntax.{w128}
use Rattle.fixed_geometry.specs.declared.point.Point.{Point}
use Rattle.fixed_geometry.specs.Points.{IsWithin, dot, difference, norm}
use Rattle.fixed_geometry.specs.Maps.{Map, IsBounded, column_x, column_y, column_z, linear_limit}
use Rattle.fixed_geometry.specs.Maps.{max_scale, scale_limit}
use Rattle.fixed_geometry.proofs.RootFacts.{ceiling_root-least}

pub abs_sum : (a b : ℤ) → unsigned_abs (a +ℤ b) ≤ unsigned_abs a + unsigned_abs b
abs_sum a b = omega (arith, ints)

pub abs_minus : (a b : ℤ) → unsigned_abs (a -ℤ b) ≤ unsigned_abs a + unsigned_abs b
abs_minus a b = omega (arith, ints)

pub abs_product : (a b : ℤ) (m n : ℕ) → unsigned_abs a ≤ m → unsigned_abs b ≤ n
    → unsigned_abs (a *ℤ b) ≤ m * n
abs_product a b m n h g = omega (
  arith,
  unsigned_abs-mul a b,
  mul-le (unsigned_abs a) (unsigned_abs b) m n h g,
)

pub fits_sum : (a b : ℤ) → unsigned_abs a ≤ 2 ^ 125 → unsigned_abs b ≤ 2 ^ 125
    → FitsSigned w128 (to_z w128 (of_z w128 a) +ℤ to_z w128 (of_z w128 b))
fits_sum a b h g = fits_signed_from_abs w128 _ (omega (arith, ints))

-- the code's a + b, and a + b + c
pub sum_is : (a b : ℤ) → unsigned_abs a ≤ 2 ^ 125 → unsigned_abs b ≤ 2 ^ 125
    → to_z w128 (of_z w128 (to_z w128 (of_z w128 a) +ℤ to_z w128 (of_z w128 b))) ≡ a +ℤ b
sum_is a b h g = omega (arith, ints)

pub fits_sum_3 : (a b c : ℤ) → unsigned_abs a ≤ 2 ^ 124 → unsigned_abs b ≤ 2 ^ 124
    → unsigned_abs c ≤ 2 ^ 124
    → FitsSigned w128 (to_z w128 (of_z w128 (to_z w128 (of_z w128 a) +ℤ to_z w128 (of_z w128 b)))
    +ℤ to_z w128 (of_z w128 c))
fits_sum_3 a b c h g k = fits_signed_from_abs w128 _ (omega (arith, ints))

pub sum_3_is : (a b c : ℤ) → unsigned_abs a ≤ 2 ^ 124 → unsigned_abs b ≤ 2 ^ 124
    → unsigned_abs c ≤ 2 ^ 124
    → to_z w128 (of_z w128 (to_z w128
    (of_z w128 (to_z w128 (of_z w128 a) +ℤ to_z w128 (of_z w128 b))) +ℤ to_z w128 (of_z w128 c)))
    ≡ a +ℤ b +ℤ c
sum_3_is a b c h g k = omega (arith, ints)

pub sum_3_size : (a b c : ℤ) → unsigned_abs a ≤ 2 ^ 122 → unsigned_abs b ≤ 2 ^ 122
    → unsigned_abs c ≤ 2 ^ 122
    → unsigned_abs (to_z w128
    (of_z w128 (to_z w128 (of_z w128 (to_z w128 (of_z w128 a) +ℤ to_z w128 (of_z w128 b)))
    +ℤ to_z w128 (of_z w128 c)))) ≤ 2 ^ 124
sum_3_size a b c h g k =
    let P : ℤ → Type 0 = λ x. unsigned_abs x ≤ 2 ^ 124 in
    subst P (sym (sum_3_is a b c (omega arith) (omega arith) (omega arith)))
    (omega (arith, abs_sum a b, abs_sum (a +ℤ b) c))

pub difference_is : (a b : ℤ) → unsigned_abs a ≤ 2 ^ 61 → unsigned_abs b ≤ 2 ^ 61
    → to_z w64 (of_z w64 (to_z w64 (of_z w64 a) -ℤ to_z w64 (of_z w64 b))) ≡ a -ℤ b
difference_is a b h g = omega (arith, ints)

pub dot_size : (p q : Point) (m n : ℕ) → IsWithin m p → IsWithin n q
    → unsigned_abs (dot p q) ≤ 3 * (m * n)
dot_size p q m n h g =
    let x = abs_product p.x q.x m n h.x g.x in
    let y = abs_product p.y q.y m n h.y g.y in
    let z = abs_product p.z q.z m n h.z g.z in
    omega (
      arith,
      abs_sum (p.x *ℤ q.x) (p.y *ℤ q.y),
      abs_sum (p.x *ℤ q.x +ℤ p.y *ℤ q.y) (p.z *ℤ q.z),
    )

pub difference_size : (p q : Point) (m n : ℕ) → IsWithin m p → IsWithin n q
    → IsWithin (m + n) (difference p q)
difference_size p q m n h g = record {
  x = omega (arith, abs_minus p.x q.x, h.x, g.x);
  y = omega (arith, abs_minus p.y q.y, h.y, g.y);
  z = omega (arith, abs_minus p.z q.z, h.z, g.z);
}

pub norm_size : (p : Point) (m : ℕ) → IsWithin m p → norm p ≤ 3 * (m * m)
norm_size p m h = omega (
  arith,
  mul-le (unsigned_abs p.x) (unsigned_abs p.x) m m h.x h.x,
  mul-le (unsigned_abs p.y) (unsigned_abs p.y) m m h.y h.y,
  mul-le (unsigned_abs p.z) (unsigned_abs p.z) m m h.z h.z,
)

-- a map stretches no axis by more than this
pub max_scale-bound : (m : Map) → IsBounded m → max_scale m ≤ scale_limit
max_scale-bound m h =
    let x = norm_size (column_x m) linear_limit (record { x = h.x.x; y = h.y.x; z = h.z.x }) in
    let y = norm_size (column_y m) linear_limit (record { x = h.x.y; y = h.y.y; z = h.z.y }) in
    let z = norm_size (column_z m) linear_limit (record { x = h.x.z; y = h.y.z; z = h.z.z }) in
    ceiling_root-least _ scale_limit (omega (arith, x, y, z))
