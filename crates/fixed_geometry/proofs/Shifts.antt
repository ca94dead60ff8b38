-- A map whose rows are those of the identity only shifts.
use Rattle.std.proofs.Common.{◌≡◌, ◌^◌, Bool, true, false, ◌&&◌, ℤ, pos, ◌+ℤ◌, ◌*ℤ◌, arith, ap, sym}
use Rattle.std.proofs.Common.{◌∙◌, refl}
use Rattle.std.proofs.lemmas.Int.{ints}
use Rattle.std.specs.Ordering.{int_eq}
use Rattle.std.proofs.lemmas.Bool.Decides.{Decides-int_eq}
use Rattle.fixed_geometry.specs.declared.point.Point.{Point}
use Rattle.fixed_geometry.specs.Points.{IsWithin, coordinate_limit, dot}
use Rattle.fixed_geometry.specs.Quotient.{clamp}
use Rattle.fixed_geometry.specs.Maps.{Map, IsBounded, identity, is_row, only_shift, shifted, after}
use Rattle.fixed_geometry.specs.Maps.{apply, apply_vector, point_part, row_after, vector_part}
use Rattle.fixed_geometry.proofs.IdentityLaw.{point_is, map_is, half_of_parts, identity_row_x}
use Rattle.fixed_geometry.proofs.IdentityLaw.{identity_row_y, identity_row_z, apply_vector-identity}

both : (a b : Bool) → (a && b) ≡ true → (a ≡ true) × (b ≡ true)
both true b e = (refl, e)
both false b e = cc

row_is : (row other : Point) → is_row row other ≡ true → row ≡ other
unfolding is_row
row_is row other e =
    let z = both (int_eq row.x other.x && int_eq row.y other.y) (int_eq row.z other.z) e in
    let xy = both (int_eq row.x other.x) (int_eq row.y other.y) z.0 in
    point_is row other ((Decides-int_eq row.x other.x).0 xy.0)
    ((Decides-int_eq row.y other.y).0 xy.1) ((Decides-int_eq row.z other.z).0 z.1)

-- the rows of a map that only shifts
record HasIdentityRows (m : Map) : Type 0 where
  x : m.x ≡ identity.x
  y : m.y ≡ identity.y
  z : m.z ≡ identity.z

rows_are : (m : Map) → only_shift m.x m.y m.z ≡ true → HasIdentityRows m
rows_are m e =
    let z = both (is_row m.x identity.x && is_row m.y identity.y) (is_row m.z identity.z) e in
    let xy = both (is_row m.x identity.x) (is_row m.y identity.y) z.0 in
    record {
      x = row_is m.x identity.x xy.0;
      y = row_is m.y identity.y xy.1;
      z =
          row_is m.z identity.z z.1;
    }

pub identity-only_shift : only_shift identity.x identity.y identity.z ≡ true
unfolding is_row
identity-only_shift = refl

sum_of : (row p : Point) (shift z : ℤ) → dot row p ≡ z *ℤ pos (10 ^ 9)
    → point_part row shift p ≡ clamp (z +ℤ shift)
sum_of row p shift z e = ap (λ v. clamp (v +ℤ shift)) (half_of_parts z (dot row p) e)

pub apply-shifted : (m : Map) (p : Point) → only_shift m.x m.y m.z ≡ true
    → shifted p m.shift ≡ apply m p
apply-shifted m p e =
    let rows = rows_are m e in
    sym (point_is (apply m p) (shifted p m.shift)
    (ap (λ row. point_part row m.shift.x p) rows.x
    ∙ sum_of identity.x p m.shift.x p.x (omega (arith, ints)))
    (ap (λ row. point_part row m.shift.y p) rows.y
    ∙ sum_of identity.y p m.shift.y p.y (omega (arith, ints)))
    (ap (λ row. point_part row m.shift.z p) rows.z
    ∙ sum_of identity.z p m.shift.z p.z (omega (arith, ints))))

pub apply_vector-shifted : (m : Map) (v : Point) → only_shift m.x m.y m.z ≡ true
    → IsWithin coordinate_limit v → v ≡ apply_vector m v
apply_vector-shifted m v e h =
    let rows = rows_are m e in
    let same : apply_vector m v ≡ apply_vector identity v =
    point_is (apply_vector m v) (apply_vector identity v) (ap (λ row. vector_part row v) rows.x)
    (ap (λ row. vector_part row v) rows.y) (ap (λ row. vector_part row v) rows.z) in
    sym (same ∙ apply_vector-identity v h)

pub after-shifted : (m own : Map) → only_shift m.x m.y m.z ≡ true → IsBounded own
    → record own { shift = apply m own.shift } ≡ after m own
after-shifted m own e h =
    let rows = rows_are m e in
    sym (map_is (after m own) (record own { shift = apply m own.shift })
    (ap (λ row. row_after row own) rows.x ∙ identity_row_x own h)
    (ap (λ row. row_after row own) rows.y ∙ identity_row_y own h)
    (ap (λ row. row_after row own) rows.z ∙ identity_row_z own h)
    refl)
