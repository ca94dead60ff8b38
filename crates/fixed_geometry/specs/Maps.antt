-- Affine maps: three rows of three linear entries in 10^-9 parts, and a shift in millimetres.
use Rattle.std.specs.Prelude.{ℕ, ◌*◌, ◌≡◌, max, Bool, ◌&&◌, ℤ, pos, ◌+ℤ◌}
use Rattle.std.specs.Ordering.{int_eq}
use Rattle.fixed_geometry.specs.Quotient.{half, clamp, clamped_within}
use Rattle.fixed_geometry.specs.Root.{ceiling_root}
use Rattle.fixed_geometry.specs.Points.{IsWithin, coordinate_limit, dot, norm}
use Rattle.fixed_geometry.specs.Points.{x_components, y_components, z_components}
use Rattle.fixed_geometry.specs.declared.limits.TheConstants.{LINEAR_LIMIT, PARTS}
use Rattle.fixed_geometry.specs.declared.point.Point.{Point}

-- the linear entry that stands for 1
abbrev pub parts : ℕ
parts = PARTS

-- the greatest size of a linear entry
abbrev pub linear_limit : ℕ
linear_limit = LINEAR_LIMIT

-- no column of three such entries is longer
abbrev pub scale_limit : ℕ
scale_limit = 2 * linear_limit

pub record Map : Type 0 where
  pub x : Point
  pub y : Point
  pub z : Point
  pub shift : Point

-- rows and shift are within the limits
pub record IsBounded (m : Map) : Type 0 where
  pub x : IsWithin linear_limit m.x
  pub y : IsWithin linear_limit m.y
  pub z : IsWithin linear_limit m.z
  pub shift : IsWithin coordinate_limit m.shift

abbrev pub column_x : Map → Point
column_x m = x_components m.x m.y m.z

abbrev pub column_y : Map → Point
column_y m = y_components m.x m.y m.z

abbrev pub column_z : Map → Point
column_z m = z_components m.x m.y m.z

-- the map that leaves each point where it is
abbrev pub identity : Map
identity = record {
  x = record { x = pos parts; y = pos 0; z = pos 0 };
  y = record { x = pos 0; y = pos parts; z = pos 0 };
  z = record { x = pos 0; y = pos 0; z = pos parts };
  shift = record { x = pos 0; y = pos 0; z = pos 0 };
}

-- one coordinate of a point under a map: a row times the point, shifted
abbrev pub point_part : Point → ℤ → Point → ℤ
point_part row shift p = clamp (half (dot row p) parts +ℤ shift)

-- one component of a vector under a map, which no shift changes
abbrev pub vector_part : Point → Point → ℤ
vector_part row v = clamp (half (dot row v) parts)

-- where a map moves a point
abbrev pub apply : Map → Point → Point
apply m p = record {
  x = point_part m.x m.shift.x p;
  y = point_part m.y m.shift.y p;
  z = point_part m.z m.shift.z p;
}

-- what a map makes of a vector
abbrev pub apply_vector : Map → Point → Point
apply_vector m v = record { x = vector_part m.x v; y = vector_part m.y v; z = vector_part m.z v }

-- one linear entry of a product: a row of the one map times a column of the other
abbrev pub entry : Point → Point → ℤ
entry row column = clamped_within linear_limit (half (dot row column) parts)

abbrev pub row_after : Point → Map → Point
row_after row own = record {
  x = entry row (column_x own);
  y = entry row (column_y own);
  z = entry row (column_z own);
}

-- the map that applies `own` first, and then `parent`
abbrev pub after : Map → Map → Map
after parent own = record {
  x = row_after parent.x own;
  y = row_after parent.y own;
  z = row_after parent.z own;
  shift = apply parent own.shift;
}

-- the length of the longest column, rounded up: the greatest factor by which an axis is stretched
abbrev pub max_scale : Map → ℕ
max_scale m = ceiling_root (max (max (norm (column_x m)) (norm (column_y m))) (norm (column_z m)))

unfoldable pub is_row : Point → Point → Bool
is_row row other = int_eq row.x other.x && int_eq row.y other.y && int_eq row.z other.z

-- whether the rows are those of the identity, so that a map of these rows only shifts
abbrev pub only_shift : Point → Point → Point → Bool
only_shift x y z = is_row x identity.x && is_row y identity.y && is_row z identity.z

-- a point shifted by a map that does nothing else
abbrev pub shifted : Point → Point → Point
shifted p shift = record {
  x = clamp (p.x +ℤ shift.x);
  y = clamp (p.y +ℤ shift.y);
  z = clamp (p.z +ℤ shift.z);
}

-- the map is within the limits, and this is what is kept with it
pub record IsKept (m : Map) (scale : ℕ) (shifts : Bool) : Type 0 where
  pub bounded : IsBounded m
  pub scale_is : scale ≡ max_scale m
  pub shifts_is : shifts ≡ only_shift m.x m.y m.z
