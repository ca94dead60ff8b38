-- Points and vectors, their limits and their products.
use Rattle.std.specs.Prelude.{ℕ, ◌≤◌, ◌+◌, ◌*◌, ◌^◌, ℤ, ◌+ℤ◌, ◌-ℤ◌, ◌*ℤ◌, unsigned_abs}
use Rattle.fixed_geometry.specs.declared.limits.TheConstants.{COMPONENT_LIMIT, COORDINATE_LIMIT}
use Rattle.fixed_geometry.specs.declared.point.Point.{Point}

-- the greatest size of a coordinate, in millimetres
abbrev pub coordinate_limit : ℕ
coordinate_limit = COORDINATE_LIMIT

-- the greatest size of a component of a vector that is multiplied or subtracted
abbrev pub component_limit : ℕ
component_limit = COMPONENT_LIMIT

-- no sum of three products of such components is greater in size
abbrev pub product_limit : ℕ
product_limit = 2 ^ 124

-- each component is at most n in size
pub record IsWithin (n : ℕ) (p : Point) : Type 0 where
  pub x : unsigned_abs p.x ≤ n
  pub y : unsigned_abs p.y ≤ n
  pub z : unsigned_abs p.z ≤ n

-- the sum of the products of the components
abbrev pub dot : Point → Point → ℤ
dot p q = p.x *ℤ q.x +ℤ p.y *ℤ q.y +ℤ p.z *ℤ q.z

-- the sum of the squares of the components
abbrev pub norm : Point → ℕ
norm p =
    unsigned_abs p.x * unsigned_abs p.x
    + unsigned_abs p.y * unsigned_abs p.y
    + unsigned_abs p.z * unsigned_abs p.z

-- the vector from q to p
abbrev pub difference : Point → Point → Point
difference p q = record { x = p.x -ℤ q.x; y = p.y -ℤ q.y; z = p.z -ℤ q.z }

-- ---- three vectors: each of their components as a vector, which turns rows into columns

abbrev pub x_components : Point → Point → Point → Point
x_components a b c = record { x = a.x; y = b.x; z = c.x }

abbrev pub y_components : Point → Point → Point → Point
y_components a b c = record { x = a.y; y = b.y; z = c.y }

abbrev pub z_components : Point → Point → Point → Point
z_components a b c = record { x = a.z; y = b.z; z = c.z }
