-- The children of a place.
use Rattle.std.proofs.Common.{◌≡◌, ℕ, ◌+◌, ◌-◌, ◌*◌, ◌/◌, ◌%◌, ◌^◌, ◌<◌, ◌≤◌, Bool, true}
use Rattle.std.proofs.Common.{false}
use Rattle.std.proofs.Common.{arith, add-one, length, map}
use Rattle.std.specs.Prelude.{slice_index_or}
use Rattle.std.specs.List.{range_with_len}
use Rattle.std.proofs.lemmas.List.FromFn.{get_or-map-range_with_len, length-map-range_with_len}
use Rattle.std.proofs.Math.Nat.{pow-suc}
use Rattle.subtree_binary.specs.Counts.{arity}
use Rattle.tileset_schema.specs.Implicit.{ImplicitParts}
use Rattle.implicit_walk.specs.Places.{IsChild, IsPlace, child, count_along_z}
use Rattle.implicit_walk.specs.declared.place.Place.{Place}
use Rattle.implicit_walk.proofs.Subtrees.{same_place}

twice_below : (a b level : ℕ) → a < 2 ^ level → b < 2 → 2 * a + b < 2 ^ (level + 1)
twice_below a b level h g = rw (add-one level, pow-suc 2 level) (step a b (2 ^ level) h g) where
  step : (a b t : ℕ) → a < t → b < 2 → 2 * a + b < t * 2
  step a b t h g = omega arith

arity_to : (octree : Bool) → arity octree ≤ 8
arity_to true = omega arith
arity_to false = omega arith

along_z : (octree : Bool) (z i level : ℕ) → z < count_along_z octree level → i < arity octree
    → 2 * z + i / 4 < count_along_z octree (level + 1)
along_z true z i level h g = twice_below z (i / 4) level h (omega arith)
along_z false z i level h g = omega arith

-- each child of a tile above the last level is a place, and the tile is its parent
pub child_is : (part : ImplicitParts) (at : Place) (i : ℕ) → IsPlace part at
    → at.level + 1 < part.available_levels → i < arity part.octree → IsChild part at (child at i)
child_is part at i p h g =
    let few : i < 8 = omega (arith, arity_to part.octree) in record {
      place = record {
        level = h;
        x = twice_below at.x (i % 2) at.level p.x (omega arith);
        y = twice_below at.y (i / 2 % 2) at.level p.y (omega arith);
        z = along_z part.octree at.z i at.level p.z g;
      };
      below = omega arith;
      parent =
          same_place (lower at.level) (half at.x (i % 2) (omega arith))
          (half at.y (i / 2 % 2) (omega arith)) (half at.z (i / 4) (omega arith));
    } where
      lower : (n : ℕ) → n + 1 - 1 ≡ n
      lower n = omega arith

      half : (a b : ℕ) → b < 2 → (2 * a + b) / 2 ≡ a
      half a b h = omega arith

-- so are all of them
pub all_children : (part : ImplicitParts) (at : Place) (n k : ℕ) (d : Place) → IsPlace part at
    → at.level + 1 < part.available_levels → n ≡ arity part.octree
    → k < length (map (child at) (range_with_len 0 n))
    → IsChild part at (slice_index_or (map (child at) (range_with_len 0 n)) k d)
all_children part at n k d p h e g =
    let few : k < n = rw (length-map-range_with_len (child at) 0 n) at g in
    rw (get_or-map-range_with_len (child at) 0 n k k d few (omega arith))
    (child_is part at k p h (rw e at few))
