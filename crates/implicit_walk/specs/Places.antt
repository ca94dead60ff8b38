-- Where the tiles of an implicit tileset are (OGC 22-025r4, "Implicit Tiling"): on which level, and
-- at which place among the cells that stand side by side there.
use Rattle.std.specs.Prelude.{◌≡◌, ℕ, ◌+◌, ◌-◌, ◌*◌, ◌/◌, ◌%◌, ◌^◌, ◌<◌, Bool, ◌&&◌, ◌==◌, nat_lt}
use Rattle.std.specs.Prelude.{if◌then◌else◌, List, [], map}
use Rattle.std.specs.List.{range_with_len}
use Rattle.avail_bits.specs.Morton.{interleaved2, interleaved3}
use Rattle.subtree_binary.specs.Counts.{arity, tile_count}
use Rattle.tileset_schema.specs.Implicit.{ImplicitParts}
use Rattle.implicit_walk.specs.declared.place.Place.{Place}

-- how many cells stand along z on a level: those of a quadtree aren't divided there
abbrev pub count_along_z : Bool → ℕ → ℕ
count_along_z octree level = if octree then 2 ^ level else 1

-- a cell on an available level
pub record IsPlace (part : ImplicitParts) (at : Place) : Type 0 where
  pub level : at.level < part.available_levels
  pub x : at.x < 2 ^ at.level
  pub y : at.y < 2 ^ at.level
  pub z : at.z < count_along_z part.octree at.level

-- the cell of the implicit root
abbrev pub root_place : Place
root_place = record { level = 0; x = 0; y = 0; z = 0 }

-- the cell so many levels above that holds this one
abbrev pub above : ℕ → Place → Place
above n at = record {
  level = at.level - n;
  x = at.x / 2 ^ n;
  y = at.y / 2 ^ n;
  z = at.z / 2 ^ n;
}

-- ---- children

-- the child whose places end in the binary digits of its number: x in the lowest, then y, then z
abbrev pub child : Place → ℕ → Place
child at i = record {
  level = at.level + 1;
  x = 2 * at.x + i % 2;
  y = 2 * at.y + i / 2 % 2;
  z = 2 * at.z + i / 4;
}

-- the next level is available too
abbrev pub has_children : ImplicitParts → Place → Bool
has_children part at = nat_lt (at.level + 1) part.available_levels

-- all children in Morton order; on the last available level there are none
abbrev pub child_places : ImplicitParts → Place → List Place
child_places part at =
    if has_children part at then map (child at) (range_with_len 0 (arity part.octree))
    else []

-- a child of a tile
pub record IsChild (part : ImplicitParts) (at child : Place) : Type 0 where
  pub place : IsPlace part child
  pub below : 0 < child.level
  pub parent : above 1 child ≡ at

-- ---- in a subtree ("Subtrees")

-- on which level of its subtree a tile is
abbrev pub local_level : ImplicitParts → Place → ℕ
local_level part at = at.level % part.subtree_levels

-- the root of the subtree that a tile is in
abbrev pub subtree_root : ImplicitParts → Place → Place
subtree_root part at = above (local_level part at) at

-- a subtree below another begins with the tile
abbrev pub begins_subtree : ImplicitParts → Place → Bool
begins_subtree part at = nat_lt 0 at.level && (local_level part at == 0)

-- where a cell is below the one that is so many levels above
abbrev pub below : ℕ → Place → Place
below levels at = record {
  level = levels;
  x = at.x % 2 ^ levels;
  y = at.y % 2 ^ levels;
  z = at.z % 2 ^ levels;
}

-- where a tile is in its subtree
abbrev pub local_place : ImplicitParts → Place → Place
local_place part at = below (local_level part at) at

-- ---- numbers ("Availability Bitstreams")

-- the number of a cell among those of its level, in Morton order
abbrev pub morton : Bool → Place → ℕ
morton octree at =
    if octree then interleaved3 at.level at.x at.y at.z else interleaved2 at.level at.x at.y

-- the number of a cell behind all those of the levels above
abbrev pub tile_number : Bool → Place → ℕ
tile_number octree at = tile_count octree at.level + morton octree at

-- the number of a tile among those of its subtree
abbrev pub number_in_subtree : ImplicitParts → Place → ℕ
number_in_subtree part at = tile_number part.octree (local_place part at)

-- the number of the child subtree that begins with the tile, among those of the subtree above
abbrev pub child_subtree_number : ImplicitParts → Place → ℕ
child_subtree_number part at = morton part.octree (below part.subtree_levels at)
