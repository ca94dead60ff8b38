-- On which side of a plane a volume lies. The inner side is where n . p + d is at least 0.
use Rattle.std.specs.Prelude.{ℕ, ◌+◌, ◌*◌, Bool, true, false, ◌&&◌, nat_lt, int_lt, ℤ, pos, ◌+ℤ◌}
use Rattle.std.specs.Prelude.{◌<ℤ◌, neg_ℤ, unsigned_abs}
use Rattle.fixed_geometry.specs.declared.point.Point.{Point}
use Rattle.fixed_geometry.specs.Points.{dot, norm}
use Rattle.volumes.specs.declared.plane.Plane.{Plane}
use Rattle.volumes.specs.declared.volume.Volume.{Volume}
use Rattle.volumes.specs.declared.volume.Volume.TheVariants.{Oriented, Ball}
use Rattle.volumes.specs.Distances.{squared}
use Rattle.volumes.specs.Limits.{centre_of, half_axes_of, half_axis}

-- n . p + d: the point's height above the plane, times the normal's length
abbrev pub height_above : Plane → Point → ℤ
height_above plane p = dot plane.n p +ℤ plane.d

-- |n . a|: how far a half axis reaches towards the plane, times the normal's length
abbrev pub extent : Plane → Point → ℕ
extent plane axis = unsigned_abs (dot plane.n axis)

-- the extent of a box: the sum of those of its half axes
abbrev pub box_extent : Plane → Point → Point → Point → ℕ
box_extent plane a b c = extent plane a + extent plane b + extent plane c

-- no point of the volume is on the plane's inner side
abbrev pub outside : Volume → Plane → Bool
outside (Oriented centre axes) plane =
    int_lt
    (height_above plane centre
    +ℤ pos (box_extent plane (half_axis axes 0) (half_axis axes 1) (half_axis axes 2)))
    (pos 0)
outside (Ball centre radius) plane =
    int_lt (height_above plane centre) (pos 0)
    && nat_lt
    (squared (unsigned_abs radius) * norm plane.n)
    (squared (unsigned_abs (height_above plane centre)))

-- ---- corners

abbrev pub sum_of : Point → Point → Point
sum_of p q = record { x = p.x +ℤ q.x; y = p.y +ℤ q.y; z = p.z +ℤ q.z }

-- the vector itself, or the opposite one
abbrev pub facing : Bool → Point → Point
facing true v = v
facing false v = record { x = neg_ℤ v.x; y = neg_ℤ v.y; z = neg_ℤ v.z }

-- a corner of a box: the centre, plus or minus each half axis
abbrev pub corner : Volume → Bool → Bool → Bool → Point
corner v i j k =
    sum_of (sum_of (sum_of
    (centre_of v)
    (facing i (half_axis (half_axes_of v) 0)))
    (facing j (half_axis (half_axes_of v) 1)))
    (facing k (half_axis (half_axes_of v) 2))

-- no corner is on the plane's inner side
abbrev pub AreCornersOutside : Volume → Plane → Type 0
AreCornersOutside v plane = (i j k : Bool) → height_above plane (corner v i j k) <ℤ pos 0

-- ---- planes farther in

-- the plane with the same normal at another offset: a lesser one is farther in
abbrev pub at_offset : Plane → ℤ → Plane
at_offset plane d = record { n = plane.n; d = d }
