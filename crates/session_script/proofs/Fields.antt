-- The fields of a view hold no colon.
use Rattle.std.proofs.Common.{◌≡◌, ◌≢◌, ◌∙◌, ℕ, ◌<◌, ◌^◌, List, ◌∷◌, ◌++◌, map, ap, arith}
use Rattle.std.proofs.lemmas.List.Elements.{All-append, All-cons, All-map, All-weaker}
use Rattle.std.specs.Fmt.{decimal, signed_decimal}
use Rattle.std.specs.List.{join_with_byte}
use Rattle.std.specs.Prelude.{All}
use Rattle.fixed_geometry.specs.declared.point.Point.{Point}
use Rattle.volumes.specs.declared.plane.Plane.{Plane}
use Rattle.session_script.specs.Ascii.{IsWithout, colon, comma, slash, parts_at}
use Rattle.session_script.specs.ViewTexts.{IsFractionOf32, IsNumberOf32, IsNumberOf64, IsPlaneOf64}
use Rattle.session_script.specs.ViewTexts.{IsPointOf64, text_of_fraction, text_of_plane}
use Rattle.session_script.specs.ViewTexts.{text_of_point, text_of_tangent}
use Rattle.session_script.proofs.Numbers.{decimal_without_colon, decimal_without_slash}
use Rattle.session_script.proofs.Numbers.{signed_without_colon, signed_without_comma}
use Rattle.session_script.proofs.Prefixes.{AreWithout}
use Rattle.session_script.proofs.Parts.{Lacks, lacking, parts-join}

-- two texts with a mark between that isn't a colon
between : (mark : ℕ) (xs ys : List ℕ) → mark ≢ colon → IsWithout colon xs → IsWithout colon ys
    → IsWithout colon (xs ++ mark ∷ ys)
between mark xs ys other h g =
    All-append (λ byte. byte ≢ colon) xs (mark ∷ ys) h
    (All-cons (λ byte. byte ≢ colon) mark ys other g)

pub point_without_colon : (p : Point) → IsPointOf64 p → IsWithout colon (text_of_point p)
point_without_colon p h =
    let tail = between comma (signed_decimal p.y) (signed_decimal p.z) (λ e. omega (arith, e))
    (signed_without_colon p.y h.y) (signed_without_colon p.z h.z) in
    between comma (signed_decimal p.x) (signed_decimal p.y ++ comma ∷ signed_decimal p.z)
    (λ e. omega (arith, e)) (signed_without_colon p.x h.x) tail

pub plane_without_colon : (p : Plane) → IsPlaneOf64 p → IsWithout colon (text_of_plane p)
plane_without_colon p h =
    let n = p.n in
    let last = between comma (signed_decimal n.z) (signed_decimal p.d) (λ e. omega (arith, e))
    (signed_without_colon n.z h.normal.z) (signed_without_colon p.d h.offset) in
    let tail = between comma (signed_decimal n.y) (signed_decimal n.z ++ comma ∷ signed_decimal p.d)
    (λ e. omega (arith, e)) (signed_without_colon n.y h.normal.y) last in
    between comma (signed_decimal n.x)
    (signed_decimal n.y ++ comma ∷ (signed_decimal n.z ++ comma ∷ signed_decimal p.d))
    (λ e. omega (arith, e)) (signed_without_colon n.x h.normal.x) tail

pub tangent_without_colon : (over under : ℕ) → over < 2 ^ 32 → under < 2 ^ 32
    → IsWithout colon (text_of_tangent over under)
tangent_without_colon over under h g =
    between slash (decimal over) (decimal under) (λ e. omega (arith, e))
    (decimal_without_colon over (omega arith)) (decimal_without_colon under (omega arith))

-- ---- the spellings that stand before a mark

pub points_without_colon : AreWithout text_of_point IsPointOf64 colon
points_without_colon = record { each = point_without_colon }

pub numbers_without_colon : AreWithout decimal IsNumberOf32 colon
numbers_without_colon = record { each = λ n small. decimal_without_colon n (omega (arith, small)) }

pub fractions_without_colon : AreWithout text_of_fraction IsFractionOf32 colon
fractions_without_colon = record { each = λ f h. tangent_without_colon f.0 f.1 h.over h.under }

pub numbers_without_slash : AreWithout decimal IsNumberOf32 slash
numbers_without_slash = record { each = λ n small. decimal_without_slash n (omega (arith, small)) }

pub numbers_without_comma : AreWithout signed_decimal IsNumberOf64 comma
numbers_without_comma = record { each = signed_without_comma }

-- the fields from the allowed error on
pub allowed_parts : (text : List ℕ) (allowed : ℕ) (planes : List Plane) → allowed < 2 ^ 32
    → All IsPlaneOf64 planes → text
    ≡ join_with_byte colon (decimal allowed ∷ map text_of_plane planes)
    → parts_at colon text ≡ decimal allowed ∷ map text_of_plane planes
allowed_parts text allowed planes small fits e =
    let first : Lacks colon (decimal allowed) =
    lacking colon (decimal allowed) (decimal_without_colon allowed (omega arith)) in
    let each : All (λ p. Lacks colon (text_of_plane p)) planes =
    All-weaker IsPlaneOf64 (λ p. Lacks colon (text_of_plane p))
    (λ p h. lacking colon (text_of_plane p) (plane_without_colon p h)) planes fits in
    let all = All-cons (Lacks colon) (decimal allowed) (map text_of_plane planes) first
    (All-map (Lacks colon) text_of_plane planes each) in
    ap (λ t. parts_at colon t) e ∙ parts-join colon (decimal allowed) (map text_of_plane planes) all
