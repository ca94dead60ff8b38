-- The text of a view is ASCII, so that bytes which are no UTF-8 spell none.
use Rattle.std.proofs.Common.{◌≡◌, ℕ, ◌<◌, ◌^◌, List, [], ◌∷◌, None, map, arith, lit<, subst, sym}
use Rattle.std.proofs.lemmas.Fmt.{IsAscii-decimal, IsAscii-signed}
use Rattle.std.proofs.lemmas.List.Elements.{All-cons, All-head, All-map, All-nil, All-tail, All-weaker}
use Rattle.std.proofs.lemmas.Str.{IsAscii-append, IsUtf8-from_ascii}
use Rattle.std.proofs.lemmas.Str.Ascii.{IsAscii-cons, IsAscii-nil}
use Rattle.std.specs.Fmt.{decimal, signed_decimal}
use Rattle.std.specs.List.{join_with_byte}
use Rattle.std.specs.Prelude.{All}
use Rattle.std.specs.Str.{IsAscii, IsUtf8}
use Rattle.fixed_geometry.specs.declared.point.Point.{Point}
use Rattle.volumes.specs.declared.plane.Plane.{Plane}
use Rattle.error_test.specs.Views.{ViewParts}
use Rattle.session_script.specs.Ascii.{colon, comma, slash}
use Rattle.session_script.specs.ViewTexts.{IsPlaneOf64, IsPointOf64, IsWithinLimits, text_of_fields}
use Rattle.session_script.specs.ViewTexts.{text_of_plane, text_of_point, text_of_tangent, text_of_view}
use Rattle.session_script.specs.Views.{view_of}
use Rattle.session_script.proofs.ViewFields.{Fits, text_of_view-is, view_fits}
use Rattle.session_script.proofs.Views.{no_view}

joined : (mark : ℕ) → mark < 128 → (parts : List (List ℕ)) → All IsAscii parts
    → IsAscii (join_with_byte mark parts)
joined mark low [] all = IsAscii-nil
joined mark low (part ∷ []) all = All-head IsAscii part [] all
joined mark low (part ∷ next ∷ parts) all =
    IsAscii-append part (mark ∷ join_with_byte mark (next ∷ parts))
    (All-head IsAscii part (next ∷ parts) all)
    (IsAscii-cons mark (join_with_byte mark (next ∷ parts)) low
    (joined mark low (next ∷ parts) (All-tail IsAscii part (next ∷ parts) all)))

point_ascii : (p : Point) → IsPointOf64 p → IsAscii (text_of_point p)
point_ascii p fits =
    let z = signed_decimal p.z ∷ [] in
    let yz = signed_decimal p.y ∷ z in
    joined comma (lit< tt) (signed_decimal p.x ∷ yz)
    (All-cons IsAscii (signed_decimal p.x) yz (IsAscii-signed p.x fits.x.sfits)
    (All-cons IsAscii (signed_decimal p.y) z (IsAscii-signed p.y fits.y.sfits)
    (All-cons IsAscii (signed_decimal p.z) [] (IsAscii-signed p.z fits.z.sfits) (All-nil IsAscii))))

plane_ascii : (p : Plane) → IsPlaneOf64 p → IsAscii (text_of_plane p)
plane_ascii p fits =
    let d = signed_decimal p.d ∷ [] in
    let zd = signed_decimal p.n.z ∷ d in
    let yzd = signed_decimal p.n.y ∷ zd in
    joined comma (lit< tt) (signed_decimal p.n.x ∷ yzd)
    (All-cons IsAscii (signed_decimal p.n.x) yzd (IsAscii-signed p.n.x fits.normal.x.sfits)
    (All-cons IsAscii (signed_decimal p.n.y) zd (IsAscii-signed p.n.y fits.normal.y.sfits)
    (All-cons IsAscii (signed_decimal p.n.z) d (IsAscii-signed p.n.z fits.normal.z.sfits)
    (All-cons IsAscii (signed_decimal p.d) [] (IsAscii-signed p.d fits.offset.sfits)
    (All-nil IsAscii)))))

tangent_ascii : (over under : ℕ) → over < 2 ^ 32 → under < 2 ^ 32
    → IsAscii (text_of_tangent over under)
tangent_ascii over under h g =
    IsAscii-append (decimal over) (slash ∷ decimal under) (IsAscii-decimal over (omega arith))
    (IsAscii-cons slash (decimal under) (lit< tt) (IsAscii-decimal under (omega arith)))

fields_ascii : (v : ViewParts) → Fits v → IsAscii (text_of_fields v)
unfolding text_of_fields
fields_ascii v fits =
    let small : v.height < 2 ^ 32 = fits.height in
    let few : v.allowed < 2 ^ 32 = fits.allowed in
    let planes = All-map IsAscii text_of_plane v.planes
    (All-weaker IsPlaneOf64 (λ p. IsAscii (text_of_plane p)) plane_ascii v.planes fits.planes) in
    let texts = map text_of_plane v.planes in
    let from_allowed = decimal v.allowed ∷ texts in
    let from_tangent = text_of_tangent v.tan_over v.tan_under ∷ from_allowed in
    let from_height = decimal v.height ∷ from_tangent in
    joined colon (lit< tt) (text_of_point v.eye ∷ from_height)
    (All-cons IsAscii (text_of_point v.eye) from_height (point_ascii v.eye fits.eye)
    (All-cons IsAscii (decimal v.height) from_tangent (IsAscii-decimal v.height (omega arith))
    (All-cons IsAscii (text_of_tangent v.tan_over v.tan_under) from_allowed
    (tangent_ascii v.tan_over v.tan_under fits.tangent.over fits.tangent.under)
    (All-cons IsAscii (decimal v.allowed) texts (IsAscii-decimal v.allowed (omega arith)) planes))))

view_ascii : (v : ViewParts) → IsWithinLimits v → IsAscii (text_of_view v)
view_ascii v within =
    rw (text_of_view-is v)
    (IsAscii-cons 64 (text_of_fields v) (lit< tt) (fields_ascii v (view_fits v within)))

-- bytes that are no UTF-8 spell no view
pub view_is_utf8 : (bytes : List ℕ) → (IsUtf8 bytes → ⊥) → view_of bytes ≡ None
view_is_utf8 bytes other =
    no_view bytes (λ v within e.
    other (subst IsUtf8 (sym e) (IsUtf8-from_ascii (text_of_view v) (view_ascii v within))))
