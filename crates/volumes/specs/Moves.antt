-- Volumes and errors under an affine map.
use Rattle.std.specs.Prelude.{ℕ, ◌*◌, min, pos, unsigned_abs, List, [], ◌∷◌}
use Rattle.fixed_geometry.specs.declared.point.Point.{Point}
use Rattle.fixed_geometry.specs.Maps.{Map, apply, apply_vector, max_scale, parts}
use Rattle.fixed_geometry.specs.Points.{coordinate_limit}
use Rattle.fixed_geometry.specs.Quotient.{half_size, up_size}
use Rattle.volumes.specs.declared.volume.Volume.{Volume}
use Rattle.volumes.specs.declared.volume.Volume.TheVariants.{Oriented, Ball}
use Rattle.volumes.specs.Limits.{half_axis, error_limit}

-- the half axes under the map, which moves them as vectors
abbrev pub moved_axes : List Point → Map → List Point
moved_axes axes map =
    apply_vector map (half_axis axes 0)
    ∷ apply_vector map (half_axis axes 1)
    ∷ apply_vector map (half_axis axes 2)
    ∷ []

-- the radius under the map, rounded up and clamped to the limit of coordinates
abbrev pub moved_radius : ℕ → Map → ℕ
moved_radius radius map = min (up_size (radius * max_scale map) parts) coordinate_limit

-- the volume under the map, which moves a centre as a point
abbrev pub moved : Volume → Map → Volume
moved (Oriented centre axes) map = Oriented (apply map centre) (moved_axes axes map)
moved (Ball centre radius) map =
    Ball (apply map centre) (pos (moved_radius (unsigned_abs radius) map))

-- the error under the map, to the nearest micrometre and clamped to the limit of errors
abbrev pub moved_error : ℕ → Map → ℕ
moved_error error map = min (half_size (error * max_scale map) parts) error_limit
