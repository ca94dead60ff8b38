-- What the presence of a tile tells of its subtree.
use Rattle.std.proofs.Common.{◌≡◌, ◌<◌, ℕ, Bool, true, false, ◌&&◌, ◌==◌, nat_lt}
use Rattle.std.proofs.Common.{if◌then◌else◌}
use Rattle.std.proofs.Common.{Option, Some, None, option_map, List, length, refl, sym, ap, arith}
use Rattle.std.proofs.Common.{not, ◌∙◌}
use Rattle.tile_types.specs.declared.key.Key.{Key}
use Rattle.tile_types.specs.declared.key.Kind.TheVariants.{Subtree}
use Rattle.tileset_schema.specs.Implicit.{ImplicitParts}
use Rattle.subtree_binary.specs.Found.{Found, waiting, lost, here}
use Rattle.subtree_binary.specs.Subtrees.{SubtreeParts}
use Rattle.implicit_walk.specs.Places.{above, begins_subtree, local_level}
use Rattle.implicit_walk.specs.Presences.{has_child_bit, own_presence, presence, subtree_at}
use Rattle.implicit_walk.specs.Presences.{Known, has_tile, known_at, presence_by, presence_in}
use Rattle.implicit_walk.specs.Presences.{presence_of}
use Rattle.implicit_walk.specs.Roots.{RootParts, key_of_subtree, subtree_key}
use Rattle.implicit_walk.specs.declared.place.Place.{Place}
use Rattle.implicit_walk.proofs.Subtrees.{same_subtree}
use Rattle.implicit_walk.specs.declared.presence.Presence.{Presence}
use Rattle.implicit_walk.specs.declared.presence.Presence.TheVariants.{No, Tile, Waiting}

-- a tile on a level below the first of its subtree
pub deeper : (n k : ℕ) → 0 < n → (nat_lt 0 n && (k == 0)) ≡ false → 0 < k
deeper n k h e = grind arith

bit_of_tile : (b : Bool) → presence_of b ≡ Tile → b ≡ true
bit_of_tile true e = refl
bit_of_tile false e = cc

tile_by : (part : ImplicitParts) (at : Place) (key : Key) (f : Found SubtreeParts)
    → presence_by part at key f ≡ Tile
    → (s : SubtreeParts) × (f ≡ here s) × (has_tile part s at ≡ true)
tile_by part at key waiting e = absurd (other e) where
  other : Waiting key ≡ Tile → ⊥
  other e = cc
tile_by part at key lost e = absurd (other e) where
  other : No ≡ Tile → ⊥
  other e = cc
tile_by part at key (here s) e = (s, refl, bit_of_tile (has_tile part s at) e)

-- a tile's subtree is loaded, and has its bit
pub tile_in : (part : ImplicitParts) (known : Known) (at : Place) (key : Option Key)
    → presence_in part known at key ≡ Tile
    → (s : SubtreeParts) × (known_at known key ≡ here s) × (has_tile part s at ≡ true)
tile_in part known at None e = absurd (other e) where
  other : No ≡ Tile → ⊥
  other e = cc
tile_in part known at (Some key) e = tile_by part at key (known key) e

pub tile_unless : (b : Bool) (p : Presence) → (if b then No else p) ≡ Tile → p ≡ Tile
tile_unless true p e = absurd (other e) where
  other : No ≡ Tile → ⊥
  other e = cc
tile_unless false p e = e

-- the subtree at hand decides, where it is that of the tile
pub by_subtree : (part : ImplicitParts) (known : Known) (at : Place) (key : Option Key)
    (s : SubtreeParts) → known_at known key ≡ here s
    → presence_in part known at key ≡ presence_of (has_tile part s at)
by_subtree part known at None s e = absurd (other e) where
  other : lost ≡ here s → ⊥
  other e = cc
by_subtree part known at (Some key) s e = ap (presence_by part at key) e

-- the kind of a subtree's key
pub kind_of_subtree : (part : ImplicitParts) (address : Option (List ℕ)) (key : Key)
    → option_map (key_of_subtree part) address ≡ Some key
    → key.kind ≡ Subtree part.octree part.subtree_levels (length part.contents)
kind_of_subtree part None key e = absurd (other e) where
  other : None ≡ Some key → ⊥
  other e = cc
kind_of_subtree part (Some address) key e =
    let same : key_of_subtree part address ≡ key = cc in
    ap (λ (k : Key). k.kind) (sym same)

-- a tile that begins no subtree, where the subtree of its parent is at hand
pub tile_beside : (root : RootParts) (known : Known) (at : Place) (s : SubtreeParts)
    → 0 < at.level → begins_subtree root.part at ≡ false → subtree_at root known (above 1 at)
    ≡ here s → presence root known at ≡ presence_of (has_tile root.part s at)
tile_beside root known at s g first e =
    ap (λ b. if b && not (has_child_bit root known at) then No else own_presence root known at)
    first
    ∙ by_subtree root.part known at (subtree_key root at) s
    (ap (known_at known)
    (same_subtree root at (deeper at.level (local_level root.part at) g first)) ∙ e)
