-- What a point inside a volume, a plane farther in and the map that changes nothing have in common
-- with the definitions.
use Rattle.std.proofs.Common.{arith, ◌≡◌, ◌∙◌, ℕ, ◌+◌, ◌-◌, ◌*◌, ◌^◌, ◌≤◌, ℤ, pos, negsuc, ◌+ℤ◌}
use Rattle.std.proofs.Common.{◌*ℤ◌, ◌≤ℤ◌, ◌<ℤ◌, unsigned_abs, List, [], ◌∷◌, length, min, Bool}
use Rattle.std.proofs.Common.{true, false, ◌&&◌, refl, sym, ap, lit≤, lit<}
use Rattle.std.proofs.lemmas.Bool.Decides.{nat_tests}
use Rattle.std.proofs.lemmas.Int.{ints, clamps}
use Rattle.std.proofs.Math.IntN.{zero-*ℤ, pos-*ℤ-negsuc}
use Rattle.std.specs.Prelude.{int_lt, nat_lt}
use Rattle.std.proofs.lemmas.Nat.{mul-le}
use Rattle.fixed_geometry.specs.declared.point.Point.{Point}
use Rattle.fixed_geometry.specs.Points.{IsWithin, coordinate_limit, difference, dot, norm}
use Rattle.fixed_geometry.specs.Quotient.{half, clamp, up_size}
use Rattle.fixed_geometry.specs.Root.{floor_root}
use Rattle.fixed_geometry.specs.Maps.{apply, apply_vector, identity, max_scale, parts, vector_part}
use Rattle.fixed_geometry.specs.Maps.{point_part}
use Rattle.fixed_geometry.proofs.RootFacts.{is_floor_root}
use Rattle.volumes.specs.declared.plane.Plane.{Plane}
use Rattle.volumes.specs.declared.volume.Volume.{Volume}
use Rattle.volumes.specs.declared.volume.Volume.TheVariants.{Oriented, Ball}
use Rattle.volumes.specs.Distances.{along, contains, distance, gap, is_between_faces, squared}
use Rattle.volumes.specs.Limits.{AreHalfAxesInRange, half_axis}
use Rattle.volumes.specs.Moves.{moved_axes, moved_radius}
use Rattle.volumes.specs.Planes.{at_offset, box_extent, height_above, outside}
use Rattle.volumes.proofs.RootBounds.{root_at_most}

-- ---- a point inside

no_gap : (q axis : Point) → is_between_faces q axis ≡ true → gap q axis ≡ 0
no_gap q axis h =
    let inside : along q axis ≤ norm axis = grind (arith, nat_tests) in
    grind (arith, nat_tests)

three : (a b c : Bool) → (a && b && c) ≡ true → (a ≡ true) × (b ≡ true) × (c ≡ true)
three true true true h = (refl, refl, refl)
three true true false h = absurd (cc)
three true false c h = absurd (cc)
three false b c h = absurd (cc)

pub contained_at_no_distance : (v : Volume) (p : Point) → contains v p ≡ true → distance v p ≡ 0
contained_at_no_distance (Oriented centre axes) p h =
    let q = difference p centre in
    let parts = three (is_between_faces q (half_axis axes 0))
    (is_between_faces q (half_axis axes 1)) (is_between_faces q (half_axis axes 2)) h in
    let x = no_gap q (half_axis axes 0) parts.0 in
    let y = no_gap q (half_axis axes 1) parts.1 in
    let z = no_gap q (half_axis axes 2) parts.2 in
    let root : floor_root 0 ≡ 0 = sym (is_floor_root 0 0 (omega arith) (omega arith)) in
    rw (x, y, z) root
contained_at_no_distance (Ball centre radius) p h =
    let n = norm (difference p centre) in
    let r = unsigned_abs radius in
    let inside : n ≤ squared r = grind (arith, nat_tests) in
    omega (arith, root_at_most n r (omega arith))

-- ---- a plane farther in

both : (a b : Bool) → (a && b) ≡ true → (a ≡ true) × (b ≡ true)
both true true h = (refl, refl)
both true false h = absurd (cc)
both false b h = absurd (cc)

and-true : (a b : Bool) → a ≡ true → b ≡ true → (a && b) ≡ true
and-true a b h g = rw (h, g) refl

negative : (z : ℤ) → int_lt z (pos 0) ≡ true → z <ℤ pos 0
negative z h = grind (arith, ints)

is_negative : (z : ℤ) → z <ℤ pos 0 → int_lt z (pos 0) ≡ true
is_negative z h = grind (arith, ints)

above : (a m n : ℕ) → nat_lt a m ≡ true → m ≤ n → nat_lt a n ≡ true
above a m n h g = grind (arith, nat_tests)

pub outside_farther : (v : Volume) (plane : Plane) (d : ℤ) → d ≤ℤ plane.d → outside v plane ≡ true
    → outside v (at_offset plane d) ≡ true
outside_farther (Oriented centre axes) plane d h out =
    let extent = pos (box_extent plane (half_axis axes 0) (half_axis axes 1) (half_axis axes 2)) in
    let below = negative (height_above plane centre +ℤ extent) out in
    is_negative (height_above (at_offset plane d) centre +ℤ extent) (omega (arith, ints))
outside_farther (Ball centre radius) plane d h out =
    let height = height_above plane centre in
    let farther = height_above (at_offset plane d) centre in
    let reach = squared (unsigned_abs radius) * norm plane.n in
    let parts = both (int_lt height (pos 0)) (nat_lt reach (squared (unsigned_abs height))) out in
    let below = negative height parts.0 in
    let more : unsigned_abs height ≤ unsigned_abs farther = omega (arith, ints) in
    let squares = mul-le (unsigned_abs height) (unsigned_abs height) (unsigned_abs farther)
    (unsigned_abs farther) more more in
    and-true (int_lt farther (pos 0)) (nat_lt reach (squared (unsigned_abs farther)))
    (is_negative farther (omega (arith, ints)))
    (above reach (squared (unsigned_abs height)) (squared (unsigned_abs farther)) parts.1 squares)

-- ---- the map that changes nothing

half-parts : (z : ℤ) → half (pos parts *ℤ z) parts ≡ z
half-parts (pos n) = omega (arith, ints)
half-parts (negsuc n) =
    let size : pos parts *ℤ negsuc n ≡ negsuc (parts * n + (parts - 1)) =
    omega (arith, ints, pos-*ℤ-negsuc parts n) in
    rw size (omega (arith, ints))

clamp-within : (z : ℤ) → unsigned_abs z ≤ coordinate_limit → clamp z ≡ z
clamp-within z h = omega (arith, ints, clamps)

vector_part-is : (row p : Point) (z : ℤ) → dot row p ≡ pos parts *ℤ z
    → unsigned_abs z ≤ coordinate_limit → vector_part row p ≡ z
vector_part-is row p z e h = ap (λ n. clamp (half n parts)) e
    ∙ (ap clamp (half-parts z) ∙ clamp-within z h)

point_part-is : (row p : Point) (z : ℤ) → dot row p ≡ pos parts *ℤ z
    → unsigned_abs z ≤ coordinate_limit → point_part row (pos 0) p ≡ z
point_part-is row p z e h =
    let none : half (dot row p) parts +ℤ pos 0 ≡ z =
    omega (arith, ints, ap (λ n. half n parts) e ∙ half-parts z) in
    ap clamp none ∙ clamp-within z h

dot-x : (p : Point) → dot identity.x p ≡ pos parts *ℤ p.x
dot-x p = omega (arith, ints, zero-*ℤ p.y, zero-*ℤ p.z)

dot-y : (p : Point) → dot identity.y p ≡ pos parts *ℤ p.y
dot-y p = omega (arith, ints, zero-*ℤ p.x, zero-*ℤ p.z)

dot-z : (p : Point) → dot identity.z p ≡ pos parts *ℤ p.z
dot-z p = omega (arith, ints, zero-*ℤ p.x, zero-*ℤ p.y)

same_point : (a b c : ℤ) (p : Point) → a ≡ p.x → b ≡ p.y → c ≡ p.z
    → record { x = a; y = b; z = c } ≡ p
same_point a b c p x y z = rw (x, y, z) refl

pub apply-identity : (p : Point) → IsWithin coordinate_limit p → apply identity p ≡ p
apply-identity p h = same_point _ _ _ p (point_part-is identity.x p p.x (dot-x p) h.x)
    (point_part-is identity.y p p.y (dot-y p) h.y) (point_part-is identity.z p p.z (dot-z p) h.z)

apply_vector-identity : (v : Point) → IsWithin coordinate_limit v → apply_vector identity v ≡ v
apply_vector-identity v h = same_point _ _ _ v (vector_part-is identity.x v v.x (dot-x v) h.x)
    (vector_part-is identity.y v v.y (dot-y v) h.y) (vector_part-is identity.z v v.z (dot-z v) h.z)

max_scale-identity : max_scale identity ≡ parts
max_scale-identity =
    let root : floor_root (10 ^ 18) ≡ 10 ^ 9 =
    sym (is_floor_root (10 ^ 18) (10 ^ 9) (lit≤ tt) (lit< tt)) in
    rw root refl

pub moved_radius-identity : (radius : ℤ) → pos 0 ≤ℤ radius → radius ≤ℤ pos coordinate_limit
    → pos (moved_radius (unsigned_abs radius) identity) ≡ radius
moved_radius-identity radius from to =
    let r = unsigned_abs radius in
    let within : r ≤ coordinate_limit = omega (arith, ints) in
    let exact : min (up_size (r * parts) parts) coordinate_limit ≡ r = omega arith in
    let size : moved_radius r identity ≡ r =
    ap (λ scale. min (up_size (r * scale) parts) coordinate_limit) max_scale-identity ∙ exact in
    omega (arith, ints, size)

three_axes : (axes : List Point) → length axes ≡ 3
    → half_axis axes 0 ∷ half_axis axes 1 ∷ half_axis axes 2 ∷ [] ≡ axes
three_axes (a ∷ b ∷ c ∷ []) h = refl
three_axes [] h = absurd (omega (arith, h))
three_axes (a ∷ []) h = absurd (omega (arith, h))
three_axes (a ∷ b ∷ []) h = absurd (omega (arith, h))
three_axes (a ∷ b ∷ c ∷ d ∷ rest) h = absurd (omega (arith, h))

pub moved_axes-identity : (axes : List Point) → length axes ≡ 3 → AreHalfAxesInRange axes
    → moved_axes axes identity ≡ axes
moved_axes-identity axes count h =
    rw (
      apply_vector-identity (half_axis axes 0) h.first,
      apply_vector-identity (half_axis axes 1) h.second,
      apply_vector-identity (half_axis axes 2) h.third,
    ) (three_axes axes count)
