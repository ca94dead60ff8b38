-- Boxes along the axes of the coordinates.
use Rattle.std.specs.Prelude.{List, [], ◌∷◌, pos}
use Rattle.fixed_geometry.specs.declared.point.Point.{Point}

-- the half axes of these lengths along x, y and z, in this order
abbrev pub aligned_axes : Point → List Point
aligned_axes lengths =
    record { x = lengths.x; y = pos 0; z = pos 0 }
    ∷ record { x = pos 0; y = lengths.y; z = pos 0 }
    ∷ record { x = pos 0; y = pos 0; z = lengths.z }
    ∷ []
