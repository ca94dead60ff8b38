-- How great the levels and the places of an implicit tileset are.
use Rattle.std.proofs.Common.{ℕ, ◌^◌, ◌<◌, ◌≤◌, Bool, true}
use Rattle.std.proofs.Common.{false}
use Rattle.std.proofs.Common.{arith}
use Rattle.tileset_schema.specs.Implicit.{HasLevels, ImplicitParts, subtree_limit}
use Rattle.implicit_walk.specs.Places.{IsPlace, count_along_z}
use Rattle.implicit_walk.specs.declared.place.Place.{Place}
use Rattle.implicit_walk.proofs.Powers.{powers_grow, below_power}

-- the levels of an implicit part are within their limits
abbrev pub AreLevels : ImplicitParts → Type 0
AreLevels part = HasLevels part.octree part.subtree_levels part.available_levels

limit_to : (octree : Bool) → subtree_limit octree ≤ 12
limit_to true = omega arith
limit_to false = omega arith

-- no subtree has more levels
pub subtree_levels_to : (part : ImplicitParts) → AreLevels part → part.subtree_levels ≤ 12
subtree_levels_to part h = omega (arith, h.subtree, limit_to part.octree)

-- no tile is on a deeper level
pub level_to : (part : ImplicitParts) (at : Place) → AreLevels part → IsPlace part at
    → at.level ≤ 29
level_to part at h p = omega (arith, h.available, p.level)

z_to : (octree : Bool) (level : ℕ) → count_along_z octree level ≤ 2 ^ level
z_to true level = omega arith
z_to false level = omega (arith, powers_grow 0 level (omega arith))

pub z_below : (octree : Bool) (z level : ℕ) → z < count_along_z octree level → z < 2 ^ level
z_below octree z level h = omega (arith, h, z_to octree level)

-- what is so along each axis
pub record AreBelow (n : ℕ) (at : Place) : Type 0 where
  pub x : at.x < n
  pub y : at.y < n
  pub z : at.z < n

-- no place is greater
pub places_to : (part : ImplicitParts) (at : Place) → AreLevels part → IsPlace part at
    → AreBelow (2 ^ 29) at
places_to part at h p = record {
  x = below_power at.x at.level 29 (level_to part at h p) p.x;
  y = below_power at.y at.level 29 (level_to part at h p) p.y;
  z = below_power at.z at.level 29 (level_to part at h p)
      (z_below part.octree at.z at.level p.z);
}
