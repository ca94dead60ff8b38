-- Views that are the same are equal.
use Rattle.std.specs.Prelude.{◌↔◌}
use Rattle.std.proofs.Common.{ℕ, ℤ, ◌≡◌, ◌==◌, true, ◌&&◌, List, refl, sym, ◌∙◌, ap, eqb-true, eq-eqb}
use Rattle.std.specs.Bool.{Decides}
use Rattle.std.specs.Ordering.{int_eq}
use Rattle.std.specs.Cmp.Lexicographic.{pointwise}
use Rattle.std.proofs.lemmas.Bool.Decides.{Decides-int_eq}
use Rattle.fixed_geometry.specs.declared.point.Point.{Point}
use Rattle.volumes.specs.declared.plane.Plane.{Plane}
use Rattle.error_test.specs.Views.{ViewParts, view_parts}
use Rattle.cut_core.proofs.Bools.{and_left, and_right}
use Rattle.engine_state.specs.Views.{same_plane, same_point, same_view}
use Rattle.engine_state.proofs.Lists.{and_both}
use Rattle.std.proofs.lemmas.Slice.Eq.{slice_eq-Decides}

point_by : (x y z : ℤ) (p : Point) → x ≡ p.x → y ≡ p.y → z ≡ p.z
    → record { x = x; y = y; z = z } ≡ p
point_by x y z p a b c = rw (a, b, c) refl

plane_by : (n : Point) (d : ℤ) (p : Plane) → n ≡ p.n → d ≡ p.d → record { n = n; d = d } ≡ p
plane_by n d p a b = rw (a, b) refl

view_by : (eye : Point) (height over under allowed : ℕ) (planes : List Plane) (v : ViewParts)
    → eye ≡ v.eye → height ≡ v.height → over ≡ v.tan_over → under ≡ v.tan_under
    → allowed ≡ v.allowed → planes ≡ v.planes
    → view_parts eye height over under allowed planes ≡ v
view_by eye height over under allowed planes v a b c d e f = rw (a, b, c, d, e, f) refl

point_is : (a b : Point) → same_point a b ≡ true → a ≡ b
point_is a b e =
    let rest : (int_eq a.y b.y && int_eq a.z b.z) ≡ true = and_right (int_eq a.x b.x) _ e in
    point_by a.x a.y a.z b ((Decides-int_eq a.x b.x).0 (and_left _ _ e))
    ((Decides-int_eq a.y b.y).0 (and_left _ _ rest))
    ((Decides-int_eq a.z b.z).0 (and_right (int_eq a.y b.y) _ rest))

point_same : (a : Point) → same_point a a ≡ true
point_same a =
    and_both (int_eq a.x a.x) _ ((Decides-int_eq a.x a.x).1 refl)
    (and_both (int_eq a.y a.y) _ ((Decides-int_eq a.y a.y).1 refl)
    ((Decides-int_eq a.z a.z).1 refl))

plane_decides : (a b : Plane) → Decides (same_plane a b) (a ≡ b)
plane_decides a b = (
  λ e. plane_by a.n a.d b (point_is a.n b.n (and_left _ _ e))
      ((Decides-int_eq a.d b.d).0 (and_right (same_point a.n b.n) _ e)),
  λ e. ap (λ p. same_plane p b) e
      ∙ and_both (same_point b.n b.n) _ (point_same b.n) ((Decides-int_eq b.d b.d).1 refl),
)

planes_decide : (xs ys : List Plane) → Decides (pointwise same_plane xs ys) (xs ≡ ys)
planes_decide xs ys =
    slice_eq-Decides {E = same_plane} plane_decides xs ys (pointwise same_plane xs ys) refl

pub view_is : (a b : ViewParts) → same_view a b ≡ true → a ≡ b
view_is a b e =
    let e1 = and_right (same_point a.eye b.eye) _ e in
    let e2 = and_right (a.height == b.height) _ e1 in
    let e3 = and_right (a.tan_over == b.tan_over) _ e2 in
    let e4 = and_right (a.tan_under == b.tan_under) _ e3 in
    view_by a.eye a.height a.tan_over a.tan_under a.allowed a.planes b
    (point_is a.eye b.eye (and_left _ _ e)) (eqb-true a.height b.height (and_left _ _ e1))
    (eqb-true a.tan_over b.tan_over (and_left _ _ e2))
    (eqb-true a.tan_under b.tan_under (and_left _ _ e3))
    (eqb-true a.allowed b.allowed (and_left _ _ e4))
    ((planes_decide a.planes b.planes).0 (and_right (a.allowed == b.allowed) _ e4))

pub view_same : (a : ViewParts) → same_view a a ≡ true
view_same a =
    and_both (same_point a.eye a.eye) _ (point_same a.eye)
    (and_both (a.height == a.height) _ (eq-eqb a.height a.height refl)
    (and_both (a.tan_over == a.tan_over) _ (eq-eqb a.tan_over a.tan_over refl)
    (and_both (a.tan_under == a.tan_under) _ (eq-eqb a.tan_under a.tan_under refl)
    (and_both (a.allowed == a.allowed) _ (eq-eqb a.allowed a.allowed refl)
    ((planes_decide a.planes a.planes).1 refl)))))

pub view_decides : (a b : ViewParts) → (same_view a b ≡ true) ↔ (a ≡ b)
view_decides a b = (view_is a b, λ e. ap (same_view a) (sym e) ∙ view_same a)
