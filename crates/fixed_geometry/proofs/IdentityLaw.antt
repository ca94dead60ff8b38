-- The identity moves nothing, and is neutral in products of maps.
use Rattle.std.proofs.Common.{◌≡◌, ◌*◌, ◌^◌, ◌≤◌, ℤ, pos, negsuc, ◌+ℤ◌, ◌*ℤ◌, unsigned_abs, arith}
use Rattle.std.proofs.Common.{ap, sym, ◌∙◌, lit≤, lit<, cond, ◌==◌, ◌+◌}
use Rattle.std.proofs.lemmas.Int.{ints, clamps}
use Rattle.fixed_geometry.specs.declared.point.Point.{Point}
use Rattle.fixed_geometry.specs.Quotient.{half, clamp, clamped_within}
use Rattle.fixed_geometry.specs.Points.{IsWithin, coordinate_limit, dot}
use Rattle.fixed_geometry.specs.Maps.{Map, IsBounded, parts, linear_limit, identity, after, apply}
use Rattle.fixed_geometry.specs.Maps.{apply_vector, entry, point_part, vector_part, row_after}
use Rattle.fixed_geometry.specs.Maps.{column_x, column_y, column_z, max_scale}
use Rattle.fixed_geometry.specs.Root.{floor_root}
use Rattle.fixed_geometry.proofs.RootFacts.{is_floor_root}

pub half_of_parts : (z w : ℤ) → w ≡ z *ℤ pos (10 ^ 9) → half w (10 ^ 9) ≡ z
half_of_parts z (pos m) e = omega (arith, ints)
half_of_parts z (negsuc m) e = omega (arith, ints)

clamped_linear : (z : ℤ) → unsigned_abs z ≤ linear_limit → clamped_within linear_limit z ≡ z
clamped_linear z h = omega (arith, ints, clamps)

clamped_coordinate : (z : ℤ) → unsigned_abs z ≤ coordinate_limit → clamp z ≡ z
clamped_coordinate z h = omega (arith, ints, clamps)

pub point_is : (p q : Point) → p.x ≡ q.x → p.y ≡ q.y → p.z ≡ q.z → p ≡ q
point_is p q x y z = λ i. record { x = x i; y = y i; z = z i }

pub map_is : (m n : Map) → m.x ≡ n.x → m.y ≡ n.y → m.z ≡ n.z → m.shift ≡ n.shift → m ≡ n
map_is m n x y z shift = λ i. record { x = x i; y = y i; z = z i; shift = shift i }

-- ---- entries and coordinates

entry_is : (row column : Point) (z : ℤ) → dot row column ≡ z *ℤ pos (10 ^ 9)
    → unsigned_abs z ≤ linear_limit → entry row column ≡ z
entry_is row column z e h = ap (λ v. clamped_within linear_limit v)
    (half_of_parts z (dot row column) e) ∙ clamped_linear z h

coordinate_is : (row p : Point) (shift z : ℤ) → dot row p ≡ z *ℤ pos (10 ^ 9)
    → unsigned_abs (z +ℤ shift) ≤ coordinate_limit → point_part row shift p ≡ z +ℤ shift
coordinate_is row p shift z e h = ap (λ v. clamp (v +ℤ shift)) (half_of_parts z (dot row p) e)
    ∙ clamped_coordinate (z +ℤ shift) h

component_is : (row v : Point) (z : ℤ) → dot row v ≡ z *ℤ pos (10 ^ 9)
    → unsigned_abs z ≤ coordinate_limit → vector_part row v ≡ z
component_is row v z e h = ap (λ u. clamp u) (half_of_parts z (dot row v) e)
    ∙ clamped_coordinate z h

-- ---- rows

-- a row of a product is this one where the row meets each column in an entry of it
row_after-is : (row : Point) (m : Map) (out : Point)
    → dot row (column_x m) ≡ out.x *ℤ pos (10 ^ 9)
    → dot row (column_y m) ≡ out.y *ℤ pos (10 ^ 9)
    → dot row (column_z m) ≡ out.z *ℤ pos (10 ^ 9)
    → IsWithin linear_limit out → row_after row m ≡ out
row_after-is row m out x y z h =
    point_is (row_after row m) out
    (entry_is row (column_x m) out.x x h.x)
    (entry_is row (column_y m) out.y y h.y)
    (entry_is row (column_z m) out.z z h.z)

row_of_identity : (row : Point) → IsWithin linear_limit row → row_after row identity ≡ row
row_of_identity row h =
    row_after-is row identity row
    (omega (arith, ints)) (omega (arith, ints)) (omega (arith, ints)) h

pub identity_row_x : (m : Map) → IsBounded m → row_after identity.x m ≡ m.x
identity_row_x m h =
    row_after-is identity.x m m.x
    (omega (arith, ints)) (omega (arith, ints)) (omega (arith, ints)) h.x

pub identity_row_y : (m : Map) → IsBounded m → row_after identity.y m ≡ m.y
identity_row_y m h =
    row_after-is identity.y m m.y
    (omega (arith, ints)) (omega (arith, ints)) (omega (arith, ints)) h.y

pub identity_row_z : (m : Map) → IsBounded m → row_after identity.z m ≡ m.z
identity_row_z m h =
    row_after-is identity.z m m.z
    (omega (arith, ints)) (omega (arith, ints)) (omega (arith, ints)) h.z

-- ---- points and vectors

pub apply-identity : (p : Point) → IsWithin coordinate_limit p → apply identity p ≡ p
apply-identity p h =
    point_is (apply identity p) p
    (coordinate_is identity.x p (pos 0) p.x (omega (arith, ints)) (omega (arith, ints, h.x))
    ∙ omega (arith, ints))
    (coordinate_is identity.y p (pos 0) p.y (omega (arith, ints)) (omega (arith, ints, h.y))
    ∙ omega (arith, ints))
    (coordinate_is identity.z p (pos 0) p.z (omega (arith, ints)) (omega (arith, ints, h.z))
    ∙ omega (arith, ints))

pub apply_vector-identity : (v : Point) → IsWithin coordinate_limit v → apply_vector identity v ≡ v
apply_vector-identity v h =
    point_is (apply_vector identity v) v
    (component_is identity.x v v.x (omega (arith, ints)) h.x)
    (component_is identity.y v v.y (omega (arith, ints)) h.y)
    (component_is identity.z v v.z (omega (arith, ints)) h.z)

shift_of_identity : (m : Map) → IsBounded m → apply m identity.shift ≡ m.shift
shift_of_identity m h =
    point_is (apply m identity.shift) m.shift
    (coordinate_is m.x identity.shift m.shift.x (pos 0) (omega (arith, ints))
    (omega (arith, ints, h.shift.x)) ∙ omega (arith, ints))
    (coordinate_is m.y identity.shift m.shift.y (pos 0) (omega (arith, ints))
    (omega (arith, ints, h.shift.y)) ∙ omega (arith, ints))
    (coordinate_is m.z identity.shift m.shift.z (pos 0) (omega (arith, ints))
    (omega (arith, ints, h.shift.z)) ∙ omega (arith, ints))

-- ---- maps

pub after-identity_right : (m : Map) → IsBounded m → after m identity ≡ m
after-identity_right m h = map_is (after m identity) m (row_of_identity m.x h.x)
    (row_of_identity m.y h.y) (row_of_identity m.z h.z) (shift_of_identity m h)

pub after-identity_left : (m : Map) → IsBounded m → after identity m ≡ m
after-identity_left m h = map_is (after identity m) m (identity_row_x m h) (identity_row_y m h)
    (identity_row_z m h) (apply-identity m.shift h.shift)

-- each column of the identity is as long as the entry 1
pub max_scale-identity : max_scale identity ≡ parts
max_scale-identity =
    let root : 10 ^ 9 ≡ floor_root (10 ^ 18) =
    is_floor_root (10 ^ 18) (10 ^ 9) (lit≤ tt) (lit< tt) in
    sym (ap (λ r. cond (r * r == 10 ^ 18) r (r + 1)) root)
