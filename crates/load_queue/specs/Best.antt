-- Which want is loaded first.
use Rattle.std.specs.Prelude.{ℕ, ◌-◌, if◌then◌else◌, nat_lt, Option, Some, None, List, [], ◌∷◌}
use Rattle.fixed_geometry.specs.declared.limits.TheConstants.{ERROR_LIMIT}
use Rattle.tile_types.specs.declared.order.Order.{Order}
use Rattle.tile_types.specs.declared.order.Order.TheVariants.{Near, Coarse, Listed}
use Rattle.tile_types.specs.declared.want.Want.{Want}
use Rattle.tile_types.specs.Wants.{Ranks}

-- the least rank is loaded first: the nearest by its distance in millimetres, the coarsest by how
-- far its error is below the greatest in micrometres, and in the order of the list all are alike
abbrev pub rank : Order → Ranks → ℕ
rank Near facts = facts.distance
rank Coarse facts = ERROR_LIMIT - facts.error
rank Listed facts = 0

-- the want, unless the best of those behind it has a lesser rank
abbrev pub better : Order → Want → Option Want → Want
better order w None = w
better order w (Some v) = if nat_lt (rank order v.facts) (rank order w.facts) then v else w

-- the want of the least rank, and of equal ranks the first
abbrev pub best : Order → List Want → Option Want
best order [] = None
best order (w ∷ ws) = Some (better order w (best order ws))
