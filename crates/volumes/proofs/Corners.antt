-- A box is outside a plane exactly where its eight corners are.
use Rattle.std.proofs.Common.{arith, ◌≡◌, ◌∙◌, zero, suc, ℤ, pos, negsuc, neg_ℤ, ◌+ℤ◌, ◌*ℤ◌, ◌<ℤ◌}
use Rattle.std.proofs.Common.{◌≤ℤ◌, unsigned_abs, List, Bool, true, false, refl, sym, ap}
use Rattle.std.proofs.Math.IntN.{suc_ℤ-*ℤ, pred_ℤ-*ℤ, zero-*ℤ, *ℤ-zero}
use Rattle.std.proofs.lemmas.Int.{ints}
use Rattle.std.specs.Prelude.{◌↔◌, IsTrue}
use Rattle.fixed_geometry.specs.declared.point.Point.{Point}
use Rattle.fixed_geometry.specs.Points.{dot}
use Rattle.volumes.specs.declared.plane.Plane.{Plane}
use Rattle.volumes.specs.declared.volume.Volume.{Volume}
use Rattle.volumes.specs.declared.volume.Volume.TheVariants.{Oriented, Ball}
use Rattle.volumes.specs.Limits.{IsBox, half_axis}
use Rattle.volumes.specs.Planes.{AreCornersOutside, box_extent, corner, facing, height_above}
use Rattle.volumes.specs.Planes.{outside, sum_of}

-- ---- products of sums

*ℤ-+ℤ : (a b c : ℤ) → a *ℤ (b +ℤ c) ≡ a *ℤ b +ℤ a *ℤ c
*ℤ-+ℤ (pos zero) b c = omega (arith, ints, zero-*ℤ (b +ℤ c), zero-*ℤ b, zero-*ℤ c)
*ℤ-+ℤ (pos (suc n)) b c = omega (
  arith,
  ints,
  suc_ℤ-*ℤ (pos n) (b +ℤ c),
  suc_ℤ-*ℤ (pos n) b,
  suc_ℤ-*ℤ (pos n) c,
  *ℤ-+ℤ (pos n) b c,
)
*ℤ-+ℤ (negsuc zero) b c = omega (
  arith,
  ints,
  pred_ℤ-*ℤ (pos zero) (b +ℤ c),
  pred_ℤ-*ℤ (pos zero) b,
  pred_ℤ-*ℤ (pos zero) c,
  zero-*ℤ (b +ℤ c),
  zero-*ℤ b,
  zero-*ℤ c,
)
*ℤ-+ℤ (negsuc (suc n)) b c = omega (
  arith,
  ints,
  pred_ℤ-*ℤ (negsuc n) (b +ℤ c),
  pred_ℤ-*ℤ (negsuc n) b,
  pred_ℤ-*ℤ (negsuc n) c,
  *ℤ-+ℤ (negsuc n) b c,
)

*ℤ-neg : (a b : ℤ) → a *ℤ neg_ℤ b ≡ neg_ℤ (a *ℤ b)
*ℤ-neg a b =
    let none : b +ℤ neg_ℤ b ≡ pos zero = omega (arith, ints) in
    let both : a *ℤ b +ℤ a *ℤ neg_ℤ b ≡ pos zero =
    sym (*ℤ-+ℤ a b (neg_ℤ b)) ∙ (ap (λ z. a *ℤ z) none ∙ *ℤ-zero a) in
    omega (arith, ints)

dot-sum_of : (n p q : Point) → dot n (sum_of p q) ≡ dot n p +ℤ dot n q
dot-sum_of n p q = omega (arith, ints, *ℤ-+ℤ n.x p.x q.x, *ℤ-+ℤ n.y p.y q.y, *ℤ-+ℤ n.z p.z q.z)

dot-opposite : (n p : Point) → dot n (facing false p) ≡ neg_ℤ (dot n p)
dot-opposite n p = omega (arith, ints, *ℤ-neg n.x p.x, *ℤ-neg n.y p.y, *ℤ-neg n.z p.z)

-- ---- how high a corner is

-- a half axis that faces either way reaches no higher than its extent, and one way it reaches it
faced_most : (i : Bool) (n a : Point) → dot n (facing i a) ≤ℤ pos (unsigned_abs (dot n a))
faced_most true n a = omega (arith, ints)
faced_most false n a = omega (arith, ints, dot-opposite n a)

faced_as : (z : ℤ) (n a : Point) → dot n a ≡ z → (i : Bool)
    × (dot n (facing i a) ≡ pos (unsigned_abs (dot n a)))
faced_as (pos m) n a e = (true, omega (arith, ints))
faced_as (negsuc m) n a e = (false, omega (arith, ints, dot-opposite n a))

height-corner : (plane : Plane) (centre : Point) (axes : List Point) (i j k : Bool)
    → height_above plane (corner (Oriented centre axes) i j k)
    ≡ height_above plane centre +ℤ dot plane.n (facing i (half_axis axes 0)) +ℤ dot plane.n
    (facing j (half_axis axes 1)) +ℤ dot plane.n (facing k (half_axis axes 2))
height-corner plane centre axes i j k =
    let n = plane.n in
    let a = facing i (half_axis axes 0) in
    let b = facing j (half_axis axes 1) in
    let c = facing k (half_axis axes 2) in
    omega (
      arith,
      ints,
      dot-sum_of n (sum_of (sum_of centre a) b) c,
      dot-sum_of n (sum_of centre a) b,
      dot-sum_of n centre a,
    )

outside_corners : (plane : Plane) (centre : Point) (axes : List Point)
    → outside (Oriented centre axes) plane ≡ true → AreCornersOutside (Oriented centre axes) plane
outside_corners plane centre axes h i j k =
    let below : (height_above plane centre +ℤ pos
    (box_extent plane (half_axis axes 0) (half_axis axes 1) (half_axis axes 2))) <ℤ pos 0 =
    grind (arith, ints) in
    omega (
      arith,
      ints,
      height-corner plane centre axes i j k,
      faced_most i plane.n (half_axis axes 0),
      faced_most j plane.n (half_axis axes 1),
      faced_most k plane.n (half_axis axes 2),
    )

corners_outside : (plane : Plane) (centre : Point) (axes : List Point)
    → AreCornersOutside (Oriented centre axes) plane → outside (Oriented centre axes) plane ≡ true
corners_outside plane centre axes h =
    let a = faced_as (dot plane.n (half_axis axes 0)) plane.n (half_axis axes 0) refl in
    let b = faced_as (dot plane.n (half_axis axes 1)) plane.n (half_axis axes 1) refl in
    let c = faced_as (dot plane.n (half_axis axes 2)) plane.n (half_axis axes 2) refl in
    let below : (height_above plane centre +ℤ pos
    (box_extent plane (half_axis axes 0) (half_axis axes 1) (half_axis axes 2))) <ℤ pos 0 =
    omega (
      arith,
      ints,
      h a.0 b.0 c.0,
      height-corner plane centre axes a.0 b.0 c.0,
      a.1,
      b.1,
      c.1,
    ) in
    grind (arith, ints)

pub corners_law : (v : Volume) (plane : Plane) (result : Bool) → result ≡ outside v plane → IsBox v
    → IsTrue result ↔ AreCornersOutside v plane
corners_law (Oriented centre axes) plane result e box = (
  λ h. outside_corners plane centre axes (sym e ∙ h),
  λ h. e
      ∙ corners_outside plane centre axes h,
)
corners_law (Ball centre radius) plane result e box = absurd box
