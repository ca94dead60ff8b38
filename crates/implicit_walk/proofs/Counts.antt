-- How many tiles and child subtrees there are, and that their numbers are below.
use Rattle.std.proofs.Common.{◌≡◌, ℕ, zero, suc, ◌+◌, ◌-◌, ◌*◌, ◌/◌, ◌%◌, ◌^◌, ◌<◌, ◌≤◌, Bool, true}
use Rattle.std.proofs.Common.{false}
use Rattle.std.proofs.Common.{arith, add-zero}
use Rattle.std.proofs.Math.Nat.{le_refl, one-le-pow}
use Rattle.std.proofs.Math.Nat.{pow-suc}
use Rattle.std.proofs.lemmas.Nat.{mod_below}
use Rattle.tileset_schema.specs.Implicit.{ImplicitParts}
use Rattle.avail_bits.specs.Morton.{interleaved2, interleaved3}
use Rattle.subtree_binary.specs.Counts.{arity, child_count, tile_count}
use Rattle.implicit_walk.specs.Places.{below, local_place, morton, tile_number}
use Rattle.implicit_walk.specs.Places.{number_in_subtree, child_subtree_number}
use Rattle.implicit_walk.specs.declared.place.Place.{Place}

pub interleaved2_below : (k x y : ℕ) → interleaved2 k x y < 4 ^ k
unfolding interleaved2
interleaved2_below zero x y = omega arith
interleaved2_below (suc k) x y =
    rw (pow-suc 4 k) (step (x % 2) (y % 2) (interleaved2 k (x / 2) (y / 2)) (4 ^ k) (omega arith)
    (omega arith) (interleaved2_below k (x / 2) (y / 2))) where
      step : (a b m t : ℕ) → a < 2 → b < 2 → m < t → a + 2 * b + 4 * m < t * 4
      step a b m t ha hb hm = omega arith

pub interleaved3_below : (k x y z : ℕ) → interleaved3 k x y z < 8 ^ k
unfolding interleaved3
interleaved3_below zero x y z = omega arith
interleaved3_below (suc k) x y z =
    rw (pow-suc 8 k) (step (x % 2) (y % 2) (z % 2) (interleaved3 k (x / 2) (y / 2) (z / 2)) (8 ^ k)
    (omega arith) (omega arith) (omega arith)
    (interleaved3_below k (x / 2) (y / 2) (z / 2))) where
      step : (a b c m t : ℕ) → a < 2 → b < 2 → c < 2 → m < t
          → a + 2 * b + 4 * c + 8 * m < t * 8
      step a b c m t ha hb hc hm = omega arith

-- a Morton number is below the number of cells of its level
pub morton_below : (octree : Bool) (at : Place) → morton octree at < arity octree ^ at.level
morton_below true at = interleaved3_below at.level at.x at.y at.z
morton_below false at = interleaved2_below at.level at.x at.y

-- above the next level stand those of a level too
pub tile_count-suc : (octree : Bool) (k : ℕ)
    → tile_count octree (suc k) ≡ tile_count octree k + arity octree ^ k
unfolding tile_count
tile_count-suc true k = rw (pow-suc 8 k) (step (8 ^ k) (one-le-pow k 8 (omega arith))) where
  step : (t : ℕ) → 1 ≤ t → (t * 8 - 1) / 7 ≡ (t - 1) / 7 + t
  step t h = omega arith
tile_count-suc false k = rw (pow-suc 4 k) (step (4 ^ k) (one-le-pow k 4 (omega arith))) where
  step : (t : ℕ) → 1 ≤ t → (t * 4 - 1) / 3 ≡ (t - 1) / 3 + t
  step t h = omega arith

-- deeper levels have more above
pub tile_count-grows : (octree : Bool) (k d : ℕ)
    → tile_count octree k ≤ tile_count octree (k + d)
tile_count-grows octree k zero = rw add-zero (le_refl (tile_count octree k))
tile_count-grows octree k (suc d) =
    let deeper : k + suc d ≡ suc (k + d) = omega arith in
    rw (deeper, tile_count-suc octree (k + d))
    (later (tile_count octree k) (tile_count octree (k + d)) (arity octree ^ (k + d))
    (tile_count-grows octree k d)) where
      later : (a b c : ℕ) → a ≤ b → a ≤ b + c
      later a b c h = omega arith

-- the number of a tile is below the number of tiles
pub number_below : (octree : Bool) (at : Place) (levels : ℕ) → at.level < levels
    → tile_number octree at < tile_count octree levels
number_below octree at levels h =
    let d = levels - suc at.level in
    let whole : suc at.level + d ≡ levels = omega arith in
    let grows = tile_count-grows octree (suc at.level) d in
    step (tile_count octree at.level) (morton octree at) (arity octree ^ at.level)
    (tile_count octree (suc at.level)) (tile_count octree levels) (morton_below octree at)
    (tile_count-suc octree at.level) (rw whole at grows) where
      step : (a m n b c : ℕ) → m < n → b ≡ a + n → b ≤ c → a + m < c
      step a m n b c h e g = omega arith

pub in_subtree_below : (part : ImplicitParts) (at : Place) → 0 < part.subtree_levels
    → number_in_subtree part at < tile_count part.octree part.subtree_levels
in_subtree_below part at h =
    number_below part.octree (local_place part at) part.subtree_levels
    (mod_below at.level part.subtree_levels h)

pub child_subtree_below : (part : ImplicitParts) (at : Place)
    → child_subtree_number part at < child_count part.octree part.subtree_levels
unfolding child_count
child_subtree_below part at = morton_below part.octree (below part.subtree_levels at)

most_tiles : (octree : Bool) → tile_count octree 12 < 2 ^ 64
unfolding tile_count
most_tiles true = omega arith
most_tiles false = omega arith

-- there are few enough tiles in a subtree
pub few_tiles : (octree : Bool) (levels : ℕ) → levels ≤ 12 → tile_count octree levels < 2 ^ 64
few_tiles octree levels h =
    let d = 12 - levels in let whole : levels + d ≡ 12 = omega arith in
    let grows = tile_count-grows octree levels d in
    step (tile_count octree levels) (tile_count octree 12) (rw whole at grows)
    (most_tiles octree) where
      step : (a b : ℕ) → a ≤ b → b < 2 ^ 64 → a < 2 ^ 64
      step a b h g = omega arith
