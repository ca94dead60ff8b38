-- Views: their limits, the screen-space error test, and which volumes are out of sight.
use Rattle.std.specs.Prelude.{◌≢◌, ℕ, ◌*◌, ◌≤◌, List, length, Bool, ◌&&◌, ◌==◌, not, nat_le}
use Rattle.std.specs.Prelude.{nat_lt, if◌then◌else◌, Option, Some, None, All, unsigned_abs}
use Rattle.std.specs.List.{list_all, list_any}
use Rattle.fixed_geometry.specs.declared.point.Point.{Point}
use Rattle.fixed_geometry.specs.Points.{coordinate_limit, IsWithin, norm}
use Rattle.volumes.specs.declared.plane.Plane.{Plane}
use Rattle.volumes.specs.declared.volume.Volume.{Volume}
use Rattle.volumes.specs.Distances.{distance}
use Rattle.volumes.specs.Limits.{IsPlaneInRange, normal_limit, offset_limit}
use Rattle.volumes.specs.Planes.{outside}
use Rattle.error_test.specs.declared.limits.TheConstants.{ALLOWED_LIMIT, HEIGHT_LIMIT, PLANE_LIMIT}
use Rattle.error_test.specs.declared.limits.TheConstants.{TANGENT_LIMIT}
use Rattle.error_test.specs.declared.view.Field.{Field}
use Rattle.error_test.specs.declared.view.Field.TheVariants.{Height, Tangent, Allowed, Eye, Planes}

-- what a view stands for: the eye in millimetres, the screen's height in pixels, the tangent of
-- half the vertical field of view as a fraction, the error that it allows in sixteenths of a
-- pixel, and the planes that bound it
pub record ViewParts : Type 0 where
  pub eye : Point
  pub height : ℕ
  pub tan_over : ℕ
  pub tan_under : ℕ
  pub allowed : ℕ
  pub planes : List Plane

abbrev pub view_parts : Point → ℕ → ℕ → ℕ → ℕ → List Plane → ViewParts
view_parts eye height tan_over tan_under allowed planes = record {
  eye = eye;
  height = height;
  tan_over = tan_over;
  tan_under = tan_under;
  allowed = allowed;
  planes = planes;
}

-- ---- the limits

-- the greatest height of the screen
abbrev pub height_limit : ℕ
height_limit = HEIGHT_LIMIT

-- the greatest number on either side of a tangent's fraction
abbrev pub tangent_limit : ℕ
tangent_limit = TANGENT_LIMIT

-- the greatest error that a view allows
abbrev pub allowed_limit : ℕ
allowed_limit = ALLOWED_LIMIT

-- the greatest number of planes
abbrev pub plane_limit : ℕ
plane_limit = PLANE_LIMIT

-- n is 1 to the limit
abbrev pub is_counted : ℕ → ℕ → Bool
is_counted limit n = nat_le 1 n && nat_le n limit

-- each component is at most the limit in size
abbrev pub is_within : ℕ → Point → Bool
is_within limit p =
    nat_le (unsigned_abs p.x) limit
    && nat_le (unsigned_abs p.y) limit
    && nat_le (unsigned_abs p.z) limit

-- the normal isn't zero, and normal and offset are within their limits
abbrev pub is_bounding : Plane → Bool
is_bounding p =
    is_within normal_limit p.n && not (norm p.n == 0) && nat_le (unsigned_abs p.d) offset_limit

-- the first part that is past its limits
abbrev pub field_past_limit : ViewParts → Option Field
field_past_limit v =
    if not (is_counted height_limit v.height) then Some Height else (
    if not (is_counted tangent_limit v.tan_over && is_counted tangent_limit v.tan_under)
    then Some Tangent else (
    if not (is_counted allowed_limit v.allowed) then Some Allowed else (
    if not (is_within coordinate_limit v.eye) then Some Eye else (
    if not (nat_le (length v.planes) plane_limit && list_all is_bounding v.planes)
    then Some Planes else None))))

-- a number from 1 to the limit
pub record IsCounted (limit n : ℕ) : Type 0 where
  pub from : 1 ≤ n
  pub to : n ≤ limit

-- the plane's normal isn't zero
abbrev pub HasNormal : Plane → Type 0
HasNormal p = norm p.n ≢ 0

-- every part is within its limits
pub record IsViewInRange (v : ViewParts) : Type 0 where
  pub eye : IsWithin coordinate_limit v.eye
  pub height : IsCounted height_limit v.height
  pub tan_over : IsCounted tangent_limit v.tan_over
  pub tan_under : IsCounted tangent_limit v.tan_under
  pub allowed : IsCounted allowed_limit v.allowed
  pub plane_count : length v.planes ≤ plane_limit
  pub planes : All IsPlaneInRange v.planes
  pub normals : All HasNormal v.planes

-- ---- the tests

-- the error test, which a tile passes that is too coarse for the view and so wants its children:
-- error * height / (distance * 2 * tangent) is greater than what the view allows, in whole numbers,
-- where the error is in micrometres and the distance in millimetres
abbrev pub passes : Volume → ℕ → ViewParts → Bool
passes volume error v =
    nat_lt
    (v.allowed * 2 * v.tan_over * distance volume v.eye * 1000)
    (error * v.height * v.tan_under * 16)

-- the volume lies outside one of the view's planes
abbrev pub culled : Volume → ViewParts → Bool
culled volume v = list_any (λ plane. outside volume plane) v.planes
