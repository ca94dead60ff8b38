-- Implicit roots by number, and what stands at the places below them (OGC 22-025r4, "Implicit
-- Tiling").
use Rattle.std.specs.Prelude.{ℕ, ◌≡◌, ◌<◌, ◌≤◌, ◌+◌, ◌-◌, Option, Some, option_to_list, List, [], length, take, drop, slice_get, slice_index_or}
use Rattle.std.specs.List.{flat_map}
use Rattle.std.specs.Option.{option_and_then, option_map_or, ForSome}
use Rattle.fixed_geometry.specs.Maps.{Map, identity}
use Rattle.volumes.specs.Limits.{IsInRange}
use Rattle.tileset_schema.specs.Implicit.{ImplicitParts}
use Rattle.subtree_binary.specs.Found.{here}
use Rattle.subtree_binary.specs.Subtrees.{SubtreeParts}
use Rattle.implicit_walk.specs.declared.place.Place.{Place}
use Rattle.implicit_walk.specs.declared.presence.Presence.{Presence}
use Rattle.implicit_walk.specs.declared.presence.Presence.TheVariants as presence
use Rattle.implicit_walk.specs.Places.{IsPlace, above, child_places}
use Rattle.implicit_walk.specs.Roots.{RootParts, IsRoot}
use Rattle.implicit_walk.specs.Presences.{IsOfRoot, presence as presence_at, subtree_at as found_at}
use Rattle.doc_store.specs.Docs.{subtree_at}
use Rattle.doc_store.specs.States.{subtree_of}
use Rattle.doc_store.specs.Store.{Stored, docs}
use Rattle.expanded_tree.specs.Tree.{Tree}
use Rattle.tree_expansion.specs.Expansion.{RootTile, own_of, external_of, implicit_node, place_contents, tilesets}
use Rattle.tree_nodes.specs.declared.found.FoundTile.{FoundTile}
use Rattle.tree_nodes.specs.declared.found.FoundTile.TheVariants as tile
use Rattle.tree_nodes.specs.declared.place_entry.PlaceEntry.{PlaceEntry}
use Rattle.tree_nodes.specs.declared.place_entry.SubtreeState.{SubtreeState}
use Rattle.tree_nodes.specs.declared.place_entry.SubtreeState.TheVariants.{Read, Awaited}
use Rattle.tree_nodes.specs.declared.stretch.Stretch.{Stretch}
use Rattle.tree_nodes.specs.declared.tables.Tables.{Tables}
use Rattle.tree_nodes.specs.declared.top.Top.{Top}
use Rattle.tree_nodes.specs.declared.node.Waiting.{Waiting}
use Rattle.tree_nodes.specs.Tiles.{IsTileAt, address_in, part_at}

-- ---- numbers of tables

abbrev pub map_in : List Map → ℕ → Map
map_in maps number = slice_index_or maps number identity

-- the transform of this number
abbrev pub transform_in : Tables → ℕ → Map
transform_in tables number = map_in tables.transforms.items number

-- these values stand side by side in the list
pub record IsStretch {A : Type 0} (xs : List A) (s : Stretch) (ys : List A) : Type 0 where
  pub there : s.first + s.count ≤ length xs
  pub is : take s.count (drop s.first xs) ≡ ys

-- ---- implicit roots

-- an implicit root with this implicit part
abbrev pub root_by : Top → ImplicitParts → RootParts
root_by top part =
    record { part = part; base = top.base; volume = top.volume; error = top.error }

-- and with this computed transform
abbrev pub top_by : Map → Top → ImplicitParts → RootTile
top_by transform top part = record {
  name = top.name;
  holder = record { transform = transform; error = top.error; refine = top.refine };
  request = top.request;
  root = root_by top part;
}

-- it is the implicit root of a tile of the store, within its limits
pub record IsTop (store : Stored) (tables : Tables) (number : ℕ) (top : RootTile) : Type 0 where
  pub entry : Top
  pub at : slice_get tables.tops.items number ≡ Some entry
  pub transform : entry.transform < length tables.transforms.items
  pub tile : IsTileAt store entry.document entry.tile
  pub base : entry.base ≡ address_in store entry.document
  pub part : ImplicitParts
  pub says : part_at store entry.document entry.tile ≡ Some part
  pub is : top ≡ top_by (transform_in tables entry.transform) entry part
  pub root : IsRoot top.root
  pub request : ForSome top.request IsInRange

-- there is an implicit root of this number
pub record HasNumber (store : Stored) (tables : Tables) (number : ℕ) : Type 0 where
  pub top : RootTile
  pub is_top : IsTop store tables number top

-- the implicit root of an entry, where its tile is one
abbrev pub top_of : Stored → Tables → Top → Option RootTile
top_of store tables top =
    option_and_then (λ part. Some (top_by (transform_in tables top.transform) top part))
    (part_at store top.document top.tile)

-- the implicit root of this number
abbrev pub top_in : Stored → Tables → ℕ → Option RootTile
top_in store tables number =
    option_and_then (top_of store tables) (slice_get tables.tops.items number)

-- ---- the nodes at places

-- how many levels are left at a place, its own counted
abbrev pub levels_left : RootTile → Place → ℕ
levels_left top at = top.root.part.available_levels - at.level

-- the node at a place, with so many external tilesets below one another
abbrev pub node_at : Stored → ℕ → RootTile → Place → Option Tree
node_at store levels top at =
    implicit_node (docs store) (tilesets (docs store) levels) top (levels_left top at) at

-- the same below the implicit root of this number
abbrev pub place_tree : Stored → Tables → ℕ → ℕ → Place → Option Tree
place_tree store tables levels number at =
    option_and_then (λ top. node_at store levels top at) (top_in store tables number)

-- the children of the tile at a place, those behind them left out
abbrev pub children_at : Stored → ℕ → RootTile → Place → List Tree
children_at store levels top at =
    flat_map (λ place. option_to_list (node_at store levels top place))
    (child_places top.root.part at)

abbrev pub place_children : Stored → Tables → ℕ → ℕ → Place → List Tree
place_children store tables levels number at =
    option_map_or (λ top. children_at store levels top at) (top_in store tables number) []

-- ---- subtrees by number

-- the subtree that a place is in is read, and has this number
pub record IsSubtreeOf (store : Stored) (root : RootParts) (at : Place) (number : ℕ)
    : Type 0 where
  pub parts : SubtreeParts
  pub found : found_at root (subtree_at (docs store)) at ≡ here parts
  pub read : option_and_then subtree_of (slice_get store.loaded number) ≡ Some parts
  pub of_root : IsOfRoot root.part parts

-- there is a tile at the place, in the subtree of this number
pub record IsTileIn (store : Stored) (root : RootParts) (at : Place) (number : ℕ) : Type 0 where
  pub present : presence_at root (subtree_at (docs store)) at ≡ presence.Tile
  pub subtree : IsSubtreeOf store root at number

-- what is found where this is present
abbrev pub IsFoundTile : Stored → RootParts → Place → Presence → FoundTile → Type 0
IsFoundTile store root at present tile.No = present ≡ presence.No
IsFoundTile store root at present (tile.Awaited key) = present ≡ presence.Waiting key
IsFoundTile store root at present (tile.Read number) =
    (present ≡ presence.Tile) × IsSubtreeOf store root at number

-- ---- places with their nodes

-- the place waits for the subtree of this key
pub record IsAwaited (store : Stored) (tables : Tables) (root : RootParts) (at : Place)
    (number : ℕ) : Type 0 where
  pub entry : Waiting
  pub there : slice_get tables.waiting.items number ≡ Some entry
  pub waits : presence_at root (subtree_at (docs store)) at ≡ presence.Waiting entry.key

abbrev pub IsState : Stored → Tables → RootParts → Place → SubtreeState → Type 0
IsState store tables root at (Read number) = IsTileIn store root at number
IsState store tables root at (Awaited number) = IsAwaited store tables root at number

-- the entry of a node below this implicit root
pub record IsPlaced (store : Stored) (tables : Tables) (entry : PlaceEntry)
    (top : RootTile) : Type 0 where
  pub is_top : IsTop store tables entry.top top
  pub place : IsPlace top.root.part entry.at
  pub state : IsState store tables top.root entry.at entry.state
  pub contents : IsStretch tables.contents.items entry.contents
      (own_of (place_contents (docs store) top entry.at))
  pub external : IsStretch tables.external.items entry.external
      (external_of (place_contents (docs store) top entry.at))

-- it is the entry of a node
pub record HasTop (store : Stored) (tables : Tables) (entry : PlaceEntry) : Type 0 where
  pub top : RootTile
  pub placed : IsPlaced store tables entry top

-- an entry of a node has this number
pub record IsPlaceAt (store : Stored) (tables : Tables) (number : ℕ) : Type 0 where
  pub entry : PlaceEntry
  pub at : slice_get tables.places.items number ≡ Some entry
  pub has : HasTop store tables entry

-- ---- while nodes are added

-- below the implicit root of this number there is a tile at a place, in a subtree by its number
pub record HasTile (store : Stored) (tables : Tables) (number subtree : ℕ)
    (at : Place) : Type 0 where
  pub top : RootTile
  pub is_top : IsTop store tables number top
  pub place : IsPlace top.root.part at
  pub tile : IsTileIn store top.root at subtree

-- the same of the place above one
pub record IsBelowTile (store : Stored) (tables : Tables) (number subtree : ℕ)
    (at : Place) : Type 0 where
  pub top : RootTile
  pub is_top : IsTop store tables number top
  pub place : IsPlace top.root.part at
  pub below : 0 < at.level
  pub subtree_above : IsSubtreeOf store top.root (above 1 at) subtree

-- this is what is found at a place
pub record IsFoundAt (store : Stored) (tables : Tables) (number : ℕ) (at : Place)
    (found : FoundTile) : Type 0 where
  pub top : RootTile
  pub is_top : IsTop store tables number top
  pub place : IsPlace top.root.part at
  pub is : IsFoundTile store top.root at (presence_at top.root (subtree_at (docs store)) at) found
