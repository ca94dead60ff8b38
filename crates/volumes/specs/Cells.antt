-- The cells of a box that is divided evenly: OGC 22-025r4, implicit tiling, subdivision schemes.
use Rattle.std.specs.Prelude.{ℕ, ◌+◌, ◌*◌, ◌^◌, ◌<◌, ◌≤◌, List, [], ◌∷◌, ℤ, pos, ◌+ℤ◌, ◌-ℤ◌}
use Rattle.fixed_geometry.specs.declared.point.Point.{Point}
use Rattle.fixed_geometry.specs.Points.{IsWithin, dot, x_components, y_components, z_components}
use Rattle.fixed_geometry.specs.Quotient.{half, up, clamp}
use Rattle.volumes.specs.declared.volume.Volume.{Volume}
use Rattle.volumes.specs.declared.volume.Volume.TheVariants.{Oriented, Ball}
use Rattle.volumes.specs.Limits.{cell_limit, half_axis, level_limit}

-- how many cells stand side by side at a level
abbrev pub cell_count : ℕ → ℕ
cell_count level = 2 ^ level

-- there is such a level, and such a place among the cells that stand side by side on it
pub record IsPlace (level place : ℕ) : Type 0 where
  pub level_to : level ≤ level_limit
  pub place_to : place < cell_count level

-- there is such a cell of a quadtree
pub record IsQuadCell (level x y : ℕ) : Type 0 where
  pub along_x : IsPlace level x
  pub along_y : IsPlace level y

-- there is such a cell of an octree
pub record IsOctCell (level x y z : ℕ) : Type 0 where
  pub along_x : IsPlace level x
  pub along_y : IsPlace level y
  pub along_z : IsPlace level z

-- so many cells stand side by side on a level
pub record IsCellCount (count : ℕ) : Type 0 where
  pub from : 0 < count
  pub to : count ≤ cell_limit

-- a cell may have its centre there, on a level of so many cells
pub record IsCell (offsets : Point) (count : ℕ) : Type 0 where
  pub within : IsWithin cell_limit offsets
  pub side_by_side : IsCellCount count

-- where a cell's centre stands along a half axis, in parts of which the half axis has 2^level
abbrev pub cell_offset : ℕ → ℕ → ℤ
cell_offset level place = pos (2 * place + 1) -ℤ pos (cell_count level)

-- the offsets along the three half axes; a quadtree leaves the third alone
abbrev pub quad_offsets : ℕ → ℕ → ℕ → Point
quad_offsets level x y = record { x = cell_offset level x; y = cell_offset level y; z = pos 0 }

abbrev pub oct_offsets : ℕ → ℕ → ℕ → ℕ → Point
oct_offsets level x y z = record {
  x = cell_offset level x;
  y = cell_offset level y;
  z = cell_offset level z;
}

-- what is made of the three half axes
abbrev pub of_half_axes : (Point → Point → Point → Point) → List Point → Point
of_half_axes make axes = make (half_axis axes 0) (half_axis axes 1) (half_axis axes 2)

-- one component of a cell's centre
abbrev pub centre_component : ℤ → Point → Point → ℕ → ℤ
centre_component from components offsets count = clamp (from +ℤ half (dot components offsets) count)

-- the centre of the cell at these offsets
abbrev pub cell_centre : Point → List Point → Point → ℕ → Point
cell_centre centre axes offsets count = record {
  x = centre_component centre.x (of_half_axes x_components axes) offsets count;
  y = centre_component centre.y (of_half_axes y_components axes) offsets count;
  z = centre_component centre.z (of_half_axes z_components axes) offsets count;
}

-- a half axis divided among the cells, each component rounded away from zero
abbrev pub divided : Point → ℕ → Point
divided axis count = record { x = up axis.x count; y = up axis.y count; z = up axis.z count }

-- the box of a quadtree's cell: the first two half axes are divided
abbrev pub split_quad : Volume → ℕ → ℕ → ℕ → Volume
split_quad (Oriented centre axes) level x y =
    Oriented (cell_centre centre axes (quad_offsets level x y) (cell_count level))
    (divided (half_axis axes 0) (cell_count level)
    ∷ divided (half_axis axes 1) (cell_count level)
    ∷ half_axis axes 2
    ∷ [])
split_quad (Ball centre radius) level x y = Ball centre radius

-- the box of an octree's cell: all three half axes are divided
abbrev pub split_oct : Volume → ℕ → ℕ → ℕ → ℕ → Volume
split_oct (Oriented centre axes) level x y z =
    Oriented (cell_centre centre axes (oct_offsets level x y z) (cell_count level))
    (divided (half_axis axes 0) (cell_count level)
    ∷ divided (half_axis axes 1) (cell_count level)
    ∷ divided (half_axis axes 2) (cell_count level)
    ∷ [])
split_oct (Ball centre radius) level x y z = Ball centre radius
