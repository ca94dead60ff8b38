-- The text of a view: `@x,y,z:H:T/D:E` and then `:nx,ny,nz,d` for each plane. Numbers are in
-- canonical
-- decimal.
use Rattle.std.specs.Prelude.{◌≡◌, None, ℕ, ℤ, ◌<◌, ◌^◌, List, [], ◌∷◌, ◌++◌, map, codes}
use Rattle.std.specs.Prelude.{FitsSigned}
use Rattle.std.specs.Int.{w64}
use Rattle.std.specs.Fmt.{decimal, signed_decimal}
use Rattle.std.specs.List.{join_with_byte}
use Rattle.fixed_geometry.specs.declared.point.Point.{Point}
use Rattle.volumes.specs.declared.plane.Plane.{Plane}
use Rattle.error_test.specs.Views.{ViewParts, field_past_limit}
use Rattle.session_script.specs.Ascii.{comma, slash, colon}

-- numbers with a comma between each two
abbrev pub text_of_row : List ℤ → List ℕ
text_of_row numbers = join_with_byte comma (map signed_decimal numbers)

abbrev pub text_of_point : Point → List ℕ
text_of_point p = text_of_row (p.x ∷ p.y ∷ p.z ∷ [])

abbrev pub text_of_plane : Plane → List ℕ
text_of_plane plane = text_of_row (plane.n.x ∷ plane.n.y ∷ plane.n.z ∷ plane.d ∷ [])

-- T/D
abbrev pub text_of_tangent : ℕ → ℕ → List ℕ
text_of_tangent over under = decimal over ++ slash ∷ decimal under

abbrev pub text_of_fraction : ℕ × ℕ → List ℕ
text_of_fraction f = text_of_tangent f.0 f.1

-- the eye, the height, the tangent, the allowed error and each plane
abbrev pub fields_of_view : ViewParts → List (List ℕ)
fields_of_view v =
    text_of_point v.eye
    ∷ decimal v.height
    ∷ text_of_tangent v.tan_over v.tan_under
    ∷ decimal v.allowed
    ∷ map text_of_plane v.planes

-- the fields with a colon between each two
unfoldable pub text_of_fields : ViewParts → List ℕ
text_of_fields v = join_with_byte colon (fields_of_view v)

-- an at sign, and then the fields
unfoldable pub text_of_view : ViewParts → List ℕ
text_of_view v = codes "@" ++ text_of_fields v

-- every part is within its limits
abbrev pub IsWithinLimits : ViewParts → Type 0
IsWithinLimits v = field_past_limit v ≡ None

-- H:T/D:E
abbrev pub text_of_screen : ViewParts → List ℕ
text_of_screen v =
    join_with_byte colon
    (decimal v.height ∷ text_of_tangent v.tan_over v.tan_under ∷ decimal v.allowed ∷ [])

-- the view with the same parts but no planes
abbrev pub without_planes : ViewParts → ViewParts
without_planes v = record v { planes = [] }

-- ---- what the texts are read into

abbrev pub IsNumberOf32 : ℕ → Type 0
IsNumberOf32 n = n < 2 ^ 32

abbrev pub IsNumberOf64 : ℤ → Type 0
IsNumberOf64 z = FitsSigned w64 z

-- either side fits 32 bits
pub record IsFractionOf32 (f : ℕ × ℕ) : Type 0 where
  pub over : IsNumberOf32 f.0
  pub under : IsNumberOf32 f.1

-- each component fits 64 bits
pub record IsPointOf64 (p : Point) : Type 0 where
  pub x : FitsSigned w64 p.x
  pub y : FitsSigned w64 p.y
  pub z : FitsSigned w64 p.z

pub record IsPlaneOf64 (p : Plane) : Type 0 where
  pub normal : IsPointOf64 p.n
  pub offset : FitsSigned w64 p.d
