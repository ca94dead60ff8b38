-- No field of a view is past its limits exactly where each part is within them.
use Rattle.std.proofs.Common.{◌≡◌, ℕ, ◌≤◌, Bool, true, false, ◌&&◌, not, eqb, leb, Some, None}
use Rattle.std.proofs.Common.{arith, refl, get_or, length, unsigned_abs, if◌then◌else◌}
use Rattle.std.proofs.lemmas.Bool.Decides.{nat_tests}
use Rattle.std.proofs.lemmas.List.Sums.{AllPass-from_list_all, list_all-from_AllPass}
use Rattle.std.specs.List.{list_all}
use Rattle.fixed_geometry.specs.declared.point.Point.{Point}
use Rattle.fixed_geometry.specs.Points.{coordinate_limit, IsWithin, norm}
use Rattle.volumes.specs.declared.plane.Plane.{Plane}
use Rattle.volumes.specs.Limits.{IsPlaneInRange, normal_limit, offset_limit}
use Rattle.error_test.specs.declared.view.Field.{Field}
use Rattle.error_test.specs.declared.view.Field.TheVariants.{Height, Tangent, Allowed, Eye, Planes}
use Rattle.error_test.specs.Views.{ViewParts, IsViewInRange, IsCounted, HasNormal, field_past_limit}
use Rattle.error_test.specs.Views.{is_counted, is_within, is_bounding, height_limit, tangent_limit}
use Rattle.error_test.specs.Views.{allowed_limit, plane_limit}

-- ---- the tests and the facts that they decide

counted : (limit n : ℕ) → is_counted limit n ≡ true → IsCounted limit n
counted limit n h = record { from = grind (arith, nat_tests); to = grind (arith, nat_tests) }

is_counted-true : (limit n : ℕ) → IsCounted limit n → is_counted limit n ≡ true
is_counted-true limit n h = let from = h.from in let to = h.to in grind (arith, nat_tests)

within : (limit : ℕ) (p : Point) → is_within limit p ≡ true → IsWithin limit p
within limit p h = record {
  x = grind (arith, nat_tests);
  y = grind (arith, nat_tests);
  z =
      grind (arith, nat_tests);
}

is_within-true : (limit : ℕ) (p : Point) → IsWithin limit p → is_within limit p ≡ true
is_within-true limit p h = let x = h.x in let y = h.y in let z = h.z in grind (arith, nat_tests)

pub record IsBounding (p : Plane) : Type 0 where
  pub in_range : IsPlaneInRange p
  pub normal : HasNormal p

three : (a b c : Bool) → (a && b && c) ≡ true → (a ≡ true) × (b ≡ true) × (c ≡ true)
three true true true h = (refl, refl, refl)
three true true false h = absurd (cc)
three true false c h = absurd (cc)
three false b c h = absurd (cc)

bounding : (p : Plane) → is_bounding p ≡ true → IsBounding p
bounding p h =
    let parts = three (is_within normal_limit p.n) (not (eqb (norm p.n) 0))
    (leb (unsigned_abs p.d) offset_limit) h in
    let normal : not (eqb (norm p.n) 0) ≡ true = parts.1 in
    let offset : leb (unsigned_abs p.d) offset_limit ≡ true = parts.2 in
    record {
      in_range = record {
        normal = within normal_limit p.n parts.0;
        offset =
            grind (arith, nat_tests);
      };
      normal = grind (arith, nat_tests);
    }

is_bounding-true : (p : Plane) → IsPlaneInRange p → HasNormal p → is_bounding p ≡ true
is_bounding-true p r n =
    let a : is_within normal_limit p.n ≡ true = is_within-true normal_limit p.n r.normal in
    let b : unsigned_abs p.d ≤ offset_limit = r.offset in
    grind (arith, nat_tests)

both : (a b : Bool) → (a && b) ≡ true → (a ≡ true) × (b ≡ true)
both true true h = (refl, refl)
both true false h = absurd (cc)
both false b h = absurd (cc)

-- ---- the five tests of a view, none of which failed

chosen : (a b c d e : Bool) (s t u v w : Field)
    → (if not a then Some s else
    (if not b then Some t else
    (if not c then Some u else (if not d then Some v else (if not e then Some w else None)))))
    ≡ None → (a ≡ true) × (b ≡ true) × (c ≡ true) × (d ≡ true) × (e ≡ true)
chosen true true true true true s t u v w h = (refl, refl, refl, refl, refl)
chosen true true true true false s t u v w h = absurd (cc)
chosen true true true false e s t u v w h = absurd (cc)
chosen true true false d e s t u v w h = absurd (cc)
chosen true false c d e s t u v w h = absurd (cc)
chosen false b c d e s t u v w h = absurd (cc)

pub in_range : (v : ViewParts) → field_past_limit v ≡ None → IsViewInRange v
in_range v h =
    let c = chosen (is_counted height_limit v.height)
    (is_counted tangent_limit v.tan_over && is_counted tangent_limit v.tan_under)
    (is_counted allowed_limit v.allowed) (is_within coordinate_limit v.eye)
    (leb (length v.planes) plane_limit && list_all is_bounding v.planes)
    Height Tangent Allowed Eye Planes h in
    let t = both (is_counted tangent_limit v.tan_over) (is_counted tangent_limit v.tan_under) c.1 in
    let p = both (leb (length v.planes) plane_limit) (list_all is_bounding v.planes) c.4 in
    let few : leb (length v.planes) plane_limit ≡ true = p.0 in
    let all = AllPass-from_list_all is_bounding v.planes p.1 in
    record {
      eye = within coordinate_limit v.eye c.3;
      height = counted height_limit v.height c.0;
      tan_over = counted tangent_limit v.tan_over t.0;
      tan_under = counted tangent_limit v.tan_under t.1;
      allowed = counted allowed_limit v.allowed c.2;
      plane_count = grind (arith, nat_tests);
      planes = λ k d g. (bounding (get_or v.planes k d) (all k d g)).in_range;
      normals = λ k d g. (bounding (get_or v.planes k d) (all k d g)).normal;
    }

all_five : (a b c d e : Bool) (s t u v w : Field) → a ≡ true → b ≡ true → c ≡ true → d ≡ true
    → e ≡ true → (if not a then Some s else
    (if not b then Some t else
    (if not c then Some u else (if not d then Some v else (if not e then Some w else None)))))
    ≡ None
all_five a b c d e s t u v w ha hb hc hd he = rw (ha, hb, hc, hd, he) refl

pub none_past_limit : (v : ViewParts) → IsViewInRange v → field_past_limit v ≡ None
none_past_limit v h =
    let height = is_counted-true height_limit v.height h.height in
    let over : is_counted tangent_limit v.tan_over ≡ true =
    is_counted-true tangent_limit v.tan_over h.tan_over in
    let under : is_counted tangent_limit v.tan_under ≡ true =
    is_counted-true tangent_limit v.tan_under h.tan_under in
    let allowed = is_counted-true allowed_limit v.allowed h.allowed in
    let eye = is_within-true coordinate_limit v.eye h.eye in
    let few : leb (length v.planes) plane_limit ≡ true = let count = h.plane_count in
    grind (arith, nat_tests) in
    let all : list_all is_bounding v.planes ≡ true =
    list_all-from_AllPass is_bounding v.planes
    (λ k d g. is_bounding-true (get_or v.planes k d) (h.planes k d g) (h.normals k d g)) in
    all_five (is_counted height_limit v.height)
    (is_counted tangent_limit v.tan_over && is_counted tangent_limit v.tan_under)
    (is_counted allowed_limit v.allowed) (is_within coordinate_limit v.eye)
    (leb (length v.planes) plane_limit && list_all is_bounding v.planes)
    Height Tangent Allowed Eye Planes height (rw (over, under) refl) allowed eye
    (rw (few, all) refl)
