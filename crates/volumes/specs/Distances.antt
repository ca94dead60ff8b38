-- How far a point is outside a volume, and whether the volume contains it.
use Rattle.std.specs.Prelude.{ℕ, List, ◌+◌, ◌-◌, ◌*◌, ◌/◌, Bool, ◌&&◌, ◌==◌, nat_le, if◌then◌else◌}
use Rattle.std.specs.Prelude.{unsigned_abs}
use Rattle.fixed_geometry.specs.declared.point.Point.{Point}
use Rattle.fixed_geometry.specs.Points.{dot, norm, difference}
use Rattle.fixed_geometry.specs.Root.{floor_root, ceiling_root}
use Rattle.volumes.specs.declared.volume.Volume.{Volume}
use Rattle.volumes.specs.declared.volume.Volume.TheVariants.{Oriented, Ball}
use Rattle.volumes.specs.Limits.{half_axis}

-- |q . a|: how far q, the way from the centre to a point, goes along a half axis, times the half
-- axis's length
abbrev pub along : Point → Point → ℕ
along q axis = unsigned_abs (dot q axis)

-- how far the point is beyond the box along a half axis, rounded down; a half axis without
-- length doesn't count
abbrev pub gap : Point → Point → ℕ
gap q axis = if norm axis == 0 then 0 else (along q axis - norm axis) / ceiling_root (norm axis)

abbrev pub squared : ℕ → ℕ
squared n = n * n

-- the sum of the squares of the three gaps
abbrev pub squared_gaps : Point → List Point → ℕ
squared_gaps q axes =
    squared (gap q (half_axis axes 0))
    + squared (gap q (half_axis axes 1))
    + squared (gap q (half_axis axes 2))

-- how far the point is outside the volume, in whole millimetres rounded down
abbrev pub distance : Volume → Point → ℕ
distance (Oriented centre axes) p = floor_root (squared_gaps (difference p centre) axes)
distance (Ball centre radius) p = floor_root (norm (difference p centre)) - unsigned_abs radius

-- the point isn't beyond the box along a half axis
abbrev pub is_between_faces : Point → Point → Bool
is_between_faces q axis = nat_le (along q axis) (norm axis)

-- the point isn't beyond the box along any of the three
abbrev pub is_inside_box : Point → List Point → Bool
is_inside_box q axes =
    is_between_faces q (half_axis axes 0)
    && is_between_faces q (half_axis axes 1)
    && is_between_faces q (half_axis axes 2)

-- the point is inside the volume or on its surface
abbrev pub contains : Volume → Point → Bool
contains (Oriented centre axes) p = is_inside_box (difference p centre) axes
contains (Ball centre radius) p =
    nat_le (norm (difference p centre)) (squared (unsigned_abs radius))
