-- The sizes within which volumes, planes and errors lie.
use Rattle.std.specs.Prelude.{ℕ, ◌≤◌, List, [], slice_index_or, ℤ, pos, ◌≤ℤ◌, unsigned_abs}
use Rattle.fixed_geometry.specs.declared.point.Point.{Point}
use Rattle.fixed_geometry.specs.Points.{coordinate_limit, IsWithin}
use Rattle.fixed_geometry.specs.declared.limits.TheConstants.{DISTANCE_LIMIT, ERROR_LIMIT}
use Rattle.volumes.specs.declared.limits.TheConstants.{CELL_LIMIT, LEVEL_LIMIT, NORMAL_LIMIT}
use Rattle.volumes.specs.declared.limits.TheConstants.{OFFSET_LIMIT}
use Rattle.volumes.specs.declared.plane.Plane.{Plane}
use Rattle.volumes.specs.declared.volume.Volume.{Volume}
use Rattle.volumes.specs.declared.volume.Volume.TheVariants.{Oriented, Ball}

-- the greatest component of a plane's normal
abbrev pub normal_limit : ℕ
normal_limit = NORMAL_LIMIT

-- the greatest offset of a plane
abbrev pub offset_limit : ℕ
offset_limit = OFFSET_LIMIT

-- the greatest error, in micrometres
abbrev pub error_limit : ℕ
error_limit = ERROR_LIMIT

-- no point within the limit of coordinates is farther from a volume, in millimetres
abbrev pub distance_limit : ℕ
distance_limit = DISTANCE_LIMIT

-- the greatest level to which a box is divided
abbrev pub level_limit : ℕ
level_limit = LEVEL_LIMIT

-- how many cells stand side by side on that level
abbrev pub cell_limit : ℕ
cell_limit = CELL_LIMIT

-- the vector without length, which is also the origin
abbrev pub zero_vector : Point
zero_vector = record { x = pos 0; y = pos 0; z = pos 0 }

-- a half axis by its number, 0 to 2
abbrev pub half_axis : List Point → ℕ → Point
half_axis axes k = slice_index_or axes k zero_vector

-- the three half axes are within the limit of coordinates
pub record AreHalfAxesInRange (axes : List Point) : Type 0 where
  pub first : IsWithin coordinate_limit (half_axis axes 0)
  pub second : IsWithin coordinate_limit (half_axis axes 1)
  pub third : IsWithin coordinate_limit (half_axis axes 2)

abbrev pub centre_of : Volume → Point
centre_of (Oriented centre axes) = centre
centre_of (Ball centre radius) = centre

-- the half axes of a box; a sphere has none
abbrev pub half_axes_of : Volume → List Point
half_axes_of (Oriented centre axes) = axes
half_axes_of (Ball centre radius) = []

-- the radius of a sphere; that of a box is 0
abbrev pub radius_of : Volume → ℤ
radius_of (Oriented centre axes) = pos 0
radius_of (Ball centre radius) = radius

-- the centre, the half axes and the radius are within the limit of coordinates,
-- and the radius isn't negative
pub record IsInRange (v : Volume) : Type 0 where
  pub centre : IsWithin coordinate_limit (centre_of v)
  pub half_axes : AreHalfAxesInRange (half_axes_of v)
  pub radius_from : pos 0 ≤ℤ radius_of v
  pub radius_to : radius_of v ≤ℤ pos coordinate_limit

-- the normal and the offset of a plane are within their limits
pub record IsPlaneInRange (p : Plane) : Type 0 where
  pub normal : IsWithin normal_limit p.n
  pub offset : unsigned_abs p.d ≤ offset_limit

-- the volume is a box and no sphere
abbrev pub IsBox : Volume → Type 0
IsBox (Oriented centre axes) = Unit {0}
IsBox (Ball centre radius) = ⊥

-- the volume is a box within the limits
pub record IsBoxInRange (v : Volume) : Type 0 where
  pub is_box : IsBox v
  pub in_range : IsInRange v
