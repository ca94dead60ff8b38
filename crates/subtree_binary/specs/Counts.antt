-- How many bits a subtree has (OGC 22-025r4, "Availability Bitstreams").
use Rattle.std.specs.Prelude.{ℕ, ◌-◌, ◌/◌, ◌^◌, Bool, if◌then◌else◌}
use Rattle.avail_bits.specs.declared.limits.TheConstants.{QUADTREE_SUBTREE_LEVELS, OCTREE_SUBTREE_LEVELS}

-- into how many cells a cell is divided
abbrev pub arity : Bool → ℕ
arity octree = if octree then 8 else 4

-- the most levels of a subtree
abbrev pub level_limit : Bool → ℕ
level_limit octree = if octree then OCTREE_SUBTREE_LEVELS else QUADTREE_SUBTREE_LEVELS

-- how many tiles there are on so many levels
unfoldable pub tile_count : Bool → ℕ → ℕ
tile_count octree levels = (arity octree ^ levels - 1) / (arity octree - 1)

-- how many child subtrees begin below so many levels
unfoldable pub child_count : Bool → ℕ → ℕ
child_count octree levels = arity octree ^ levels
