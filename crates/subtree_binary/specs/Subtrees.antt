-- What a subtree says (OGC 22-025r4, "Subtrees").
use Rattle.std.specs.Prelude.{◌≡◌, ℕ, Bool, List, length, All}
use Rattle.json_decimal.specs.JsonValue.{JsonValue}
use Rattle.subtree_binary.specs.Counts.{tile_count, child_count}

-- the availability of tiles and of each of their contents, by the number of the tile, and that of
-- child subtrees, by the number of the cell below; the JSON chunk; and the binary chunk
pub record SubtreeParts : Type 0 where
  pub tiles : List Bool
  pub contents : List (List Bool)
  pub children : List Bool
  pub json : JsonValue
  pub binary : List ℕ

-- as many bits as such a subtree has
pub record HasCounts (octree : Bool) (levels count : ℕ) (subtree : SubtreeParts) : Type 0 where
  pub tiles : length subtree.tiles ≡ tile_count octree levels
  pub contents : length subtree.contents ≡ count
  pub each : All (λ bits. length bits ≡ tile_count octree levels) subtree.contents
  pub children : length subtree.children ≡ child_count octree levels
