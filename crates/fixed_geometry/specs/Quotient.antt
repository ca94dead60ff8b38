-- Quotients of whole numbers, rounded as the geometry rounds them.
use Rattle.std.specs.Prelude.{ℕ, ◌+◌, ◌-◌, ◌*◌, ◌/◌, ◌≤◌, ◌<◌, ℤ, pos, negsuc, neg_ℤ, unsigned_abs}
use Rattle.std.specs.Int.{int_max, int_min}
use Rattle.fixed_geometry.specs.declared.limits.TheConstants.{OPERAND_LIMIT}
use Rattle.fixed_geometry.specs.Points.{coordinate_limit}

-- the greatest size of what `half` and `up` divide, and divide by
abbrev pub operand_limit : ℕ
operand_limit = OPERAND_LIMIT

-- n can be divided by d with rounding
pub record AreOperands (n : ℤ) (d : ℕ) : Type 0 where
  pub n_to : unsigned_abs n ≤ operand_limit
  pub d_from : 0 < d
  pub d_to : d ≤ operand_limit

-- n / d to the nearest whole number, a half upwards
abbrev pub half_size : ℕ → ℕ → ℕ
half_size n d = (2 * n + d) / (2 * d)

-- n / d to the next whole number upwards
abbrev pub up_size : ℕ → ℕ → ℕ
up_size n d = (n + (d - 1)) / d

-- the number of size n that has the sign of z
abbrev pub signed_as : ℤ → ℕ → ℤ
signed_as (pos _) n = pos n
signed_as (negsuc _) n = neg_ℤ (pos n)

-- n / d to the nearest whole number, a half away from zero
abbrev pub half : ℤ → ℕ → ℤ
half n d = signed_as n (half_size (unsigned_abs n) d)

-- n / d to the next whole number away from zero
abbrev pub up : ℤ → ℕ → ℤ
up n d = signed_as n (up_size (unsigned_abs n) d)

-- the number nearest to n that is at most `limit` in size
abbrev pub clamped_within : ℕ → ℤ → ℤ
clamped_within limit n = int_max (neg_ℤ (pos limit)) (int_min n (pos limit))

-- the coordinate nearest to n
abbrev pub clamp : ℤ → ℤ
clamp n = clamped_within coordinate_limit n
