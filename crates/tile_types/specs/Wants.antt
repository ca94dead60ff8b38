-- What a load is ranked by.
use Rattle.std.specs.Prelude.{ℕ, ◌≤◌}
use Rattle.fixed_geometry.specs.declared.limits.TheConstants.{DISTANCE_LIMIT, ERROR_LIMIT}

-- the least distance of the nodes that want it, in millimetres, and their greatest geometric error, in
-- micrometres
pub record Ranks : Type 0 where
  pub distance : ℕ
  pub error : ℕ

-- no distance and no error of a tile is greater
pub record AreRanks (distance error : ℕ) : Type 0 where
  pub near : distance ≤ DISTANCE_LIMIT
  pub coarse : error ≤ ERROR_LIMIT
