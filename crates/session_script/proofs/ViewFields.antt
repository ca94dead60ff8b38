-- What stands behind each field of a view, and that its numbers fit.
use Rattle.std.proofs.Common.{◌≡◌, ◌∙◌, ℕ, ◌<◌, ◌≤◌, ◌^◌, List, [], ◌∷◌, ◌++◌, append_assoc, sym}
use Rattle.std.proofs.Common.{ap, length, map, refl, arith, Option, None, Some, true, false, subst}
use Rattle.std.proofs.Common.{w64}
use Rattle.std.proofs.lemmas.Int.{fits_signed_from_abs}
use Rattle.std.proofs.lemmas.List.Elements.{All-weaker}
use Rattle.std.proofs.lemmas.List.{map-append}
use Rattle.std.specs.Fmt.{decimal}
use Rattle.std.specs.List.{join_with_byte}
use Rattle.std.specs.Prelude.{All, IfSome, IsNone, MatchOption}
use Rattle.fixed_geometry.specs.declared.point.Point.{Point}
use Rattle.fixed_geometry.specs.Points.{IsWithin, coordinate_limit}
use Rattle.volumes.specs.declared.plane.Plane.{Plane}
use Rattle.volumes.specs.Limits.{IsPlaneInRange, normal_limit}
use Rattle.error_test.specs.Views.{ViewParts, field_past_limit, plane_limit, view_parts}
use Rattle.error_test.specs.declared.view.Field.{Field}
use Rattle.error_test.proofs.ViewLimits.{in_range}
use Rattle.session_script.specs.Ascii.{colon}
use Rattle.session_script.specs.ViewTexts.{IsFractionOf32, IsNumberOf32, IsPlaneOf64, IsPointOf64}
use Rattle.session_script.specs.ViewTexts.{text_of_plane, text_of_point, text_of_tangent}
use Rattle.session_script.specs.ViewTexts.{text_of_fields, text_of_view}

abbrev pub behind_tangent : ViewParts → List ℕ
behind_tangent v = join_with_byte colon (decimal v.allowed ∷ map text_of_plane v.planes)

abbrev pub behind_height : ViewParts → List ℕ
behind_height v = text_of_tangent v.tan_over v.tan_under ++ colon ∷ behind_tangent v

abbrev pub behind_eye : ViewParts → List ℕ
behind_eye v = decimal v.height ++ colon ∷ behind_height v

abbrev pub behind_at : ViewParts → List ℕ
behind_at v = text_of_point v.eye ++ colon ∷ behind_eye v

pub text_of_fields-is : (v : ViewParts) → text_of_fields v ≡ behind_at v
unfolding text_of_fields
text_of_fields-is v = refl

pub text_of_view-is : (v : ViewParts) → text_of_view v ≡ 64 ∷ text_of_fields v
unfolding text_of_view
text_of_view-is v = refl

-- what spells the fields spells the view behind an at sign
pub behind_at_sign : (text rest : List ℕ) (r : Option ViewParts) → text ≡ 64 ∷ rest
    → IfSome r (λ v. rest ≡ text_of_fields v) → IfSome r (λ v. text ≡ text_of_view v)
behind_at_sign text rest None strip h = tt
behind_at_sign text rest (Some v) strip h =
    strip ∙ (ap (λ t. 64 ∷ t) h ∙ sym (text_of_view-is v))

-- the numbers fit what they are read into
pub record Fits (v : ViewParts) : Type 0 where
  pub eye : IsPointOf64 v.eye
  pub height : IsNumberOf32 v.height
  pub tangent : IsFractionOf32 (v.tan_over, v.tan_under)
  pub allowed : IsNumberOf32 v.allowed
  pub few : length v.planes ≤ plane_limit
  pub planes : All IsPlaneOf64 v.planes

point_fits : (n : ℕ) (p : Point) → n < 2 ^ 63 → IsWithin n p → IsPointOf64 p
point_fits n p small h = record {
  x = fits_signed_from_abs w64 p.x (omega (arith, h.x));
  y = fits_signed_from_abs w64 p.y (omega (arith, h.y));
  z = fits_signed_from_abs w64 p.z (omega (arith, h.z));
}

plane_fits : (p : Plane) → IsPlaneInRange p → IsPlaneOf64 p
plane_fits p h = record {
  normal = point_fits normal_limit p.n (omega arith) h.normal;
  offset = fits_signed_from_abs w64 p.d (omega (arith, h.offset));
}

pub view_fits : (v : ViewParts) → field_past_limit v ≡ None → Fits v
view_fits v none =
    let h = in_range v none in
    record {
      eye = point_fits coordinate_limit v.eye (omega arith) h.eye;
      height = omega (arith, h.height.to);
      tangent = record {
        over = omega (arith, h.tan_over.to);
        under =
            omega (arith, h.tan_under.to);
      };
      allowed = omega (arith, h.allowed.to);
      few = h.plane_count;
      planes = All-weaker IsPlaneInRange IsPlaneOf64 plane_fits v.planes h.planes;
    }

-- a view whose parts are within their limits is made
pub made : (asked v : ViewParts) (A : ViewParts → Type 0) (B : Field → Type 0)
    → MatchOption (field_past_limit asked) (A asked) B → asked ≡ v → field_past_limit v ≡ None → A v
made asked v A B h same none =
    let P : ViewParts → Type 0 = λ w. MatchOption (field_past_limit w) (A w) B in
    let at_v : MatchOption (field_past_limit v) (A v) B = subst P same h in
    let Q : Option Field → Type 0 = λ f. MatchOption f (A v) B in
    subst Q none at_v

pub same_parts : (eye : Point) (height over under allowed : ℕ) (planes : List Plane) (v : ViewParts)
    → eye ≡ v.eye → height ≡ v.height → over ≡ v.tan_over → under ≡ v.tan_under
    → allowed ≡ v.allowed → planes ≡ v.planes → view_parts eye height over under allowed planes ≡ v
same_parts eye height over under allowed planes v a b c d e f = rw (a, b, c, d, e, f) refl

pub not_none : (r : Option ViewParts) (v : ViewParts) → r ≡ Some v → IsNone r → ⊥
not_none None v e h = cc
not_none (Some w) v e h = let no : true ≡ false = h in cc

-- ---- a view that is written plane by plane

abbrev pub with_planes : ViewParts → List Plane → ViewParts
with_planes v planes = record v { planes = planes }

join-push : (mark : ℕ) (first : List ℕ) (parts : List (List ℕ)) (last : List ℕ)
    → join_with_byte mark (first ∷ (parts ++ (last ∷ [])))
    ≡ join_with_byte mark (first ∷ parts) ++ (mark ∷ last)
join-push mark first [] last = refl
join-push mark first (next ∷ parts) last =
    ap (λ t. first ++ (mark ∷ t)) (join-push mark next parts last)
    ∙ sym (append_assoc first (mark ∷ join_with_byte mark (next ∷ parts)) (mark ∷ last))

pub text_of_view-push : (v : ViewParts) (planes : List Plane) (p : Plane)
    → text_of_view (with_planes v (planes ++ (p ∷ [])))
    ≡ text_of_view (with_planes v planes) ++ (colon ∷ text_of_plane p)
unfolding text_of_view text_of_fields
text_of_view-push v planes p =
    let fields = decimal v.height ∷ text_of_tangent v.tan_over v.tan_under ∷ decimal v.allowed ∷ map
    text_of_plane planes in
    ap (λ texts. 64 ∷ join_with_byte colon
    (text_of_point v.eye ∷ decimal v.height ∷ text_of_tangent v.tan_over v.tan_under ∷ decimal
    v.allowed ∷ texts)) (map-append text_of_plane planes (p ∷ []))
    ∙ ap (λ text. 64 ∷ text) (join-push colon (text_of_point v.eye) fields (text_of_plane p))
