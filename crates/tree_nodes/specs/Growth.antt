-- What is added to a list of nodes.
use Rattle.std.specs.Prelude.{ℕ, ◌≡◌, ◌<◌, ◌≤◌, ◌+◌, ⊤, Option, Some, None, Result, Ok, Err, List, [], ◌∷◌, ◌++◌, ◌^◌, length, unwrap_or}
use Rattle.std.specs.Option.{option_and_then, option_map_or}
use Rattle.fixed_geometry.specs.Maps.{Map, after, identity}
use Rattle.volumes.specs.Moves.{moved_error}
use Rattle.tileset_schema.specs.Implicit.{ImplicitParts}
use Rattle.tileset_schema.specs.Parts.{WrittenParts}
use Rattle.tileset_schema.specs.Tiles.{WrittenTile, WrittenTiles}
use Rattle.implicit_walk.specs.Roots.{error_at}
use Rattle.doc_store.specs.Store.{Stored, docs}
use Rattle.expanded_tree.specs.Tree.{Tree, addresses_of, children_of, name_of}
use Rattle.tree_expansion.specs.Expansion.{Holder, RootTile, count_of, external_of, externals, holder_of, place_contents, place_holder, place_name, root_tile, tilesets, written_tree, written_trees}
use Rattle.tree_nodes.specs.declared.error.ListError.{ListError}
use Rattle.tree_nodes.specs.declared.error.ListError.TheVariants.{TooLarge, OutOfMemory}
use Rattle.tree_nodes.specs.declared.node.Handed.{Handed}
use Rattle.tree_nodes.specs.declared.node.NodeSource.{NodeSource}
use Rattle.tree_nodes.specs.declared.node.NodeSource.TheVariants.{Pending, Implicit}
use Rattle.tree_nodes.specs.declared.node.TreeNode.{TreeNode}
use Rattle.tree_nodes.specs.declared.node.Waiting.{Waiting}
use Rattle.tree_nodes.specs.declared.node_list.NodeList.{NodeList}
use Rattle.tree_nodes.specs.declared.place_entry.PlaceEntry.{PlaceEntry}
use Rattle.tree_nodes.specs.declared.tables.Tables.{Tables}
use Rattle.tree_nodes.specs.TreeIn.{tree_in}
use Rattle.tree_nodes.specs.Waits.{tops_wait}
use Rattle.tree_nodes.specs.Tiles.{address_in, children_in, tile_at}
use Rattle.tree_nodes.specs.Places.{IsPlaced, IsTop, map_in, top_in}
use Rattle.tree_nodes.specs.Fronts.{Continues, IsFront}
use Rattle.tree_nodes.specs.Nodes.{IsSoundList, name_by, node_trees}

-- ---- the limit on nodes

-- so many nodes are more than the limit, if there is one
abbrev pub Passes : Option ℕ → ℕ → Type 0
Passes None count = ⊥
Passes (Some limit) count = limit < count

abbrev pub IsWithin : Option ℕ → ℕ → Type 0
IsWithin None count = ⊤
IsWithin (Some limit) count = count ≤ limit

-- where so many nodes are to be listed
abbrev pub Refuses : Option ℕ → ℕ → ListError → Type 0
Refuses limit count TooLarge = Passes limit count
Refuses limit count OutOfMemory = ⊤

-- further nodes and values in the tables, if any
pub record Extends (old new : NodeList) : Type 0 where
  pub nodes : IsFront old.nodes.items new.nodes.items
  pub tables : Continues old.tables new.tables

-- one node more, of which this holds, within the limit, or a refusal
abbrev pub Tells : Option ℕ → NodeList → NodeList → Result (Unit {0}) ListError → Type 0 → Type 0
Tells limit old new (Ok u) fact = fact × IsWithin limit (length old.nodes.items + 1)
Tells limit old new (Err e) fact = Refuses limit (length old.nodes.items + 1) e × Extends old new

-- ---- one node

-- what the node takes over
pub record TakesOver (handed : Handed) (n : TreeNode) : Type 0 where
  pub parent : n.parent ≡ handed.parent
  pub number : n.number ≡ handed.number
  pub levels : n.levels ≡ handed.levels

-- the number of the computed transform of a tile below one of the number `above`
pub record IsBelow (old new : List Map) (above : ℕ) (own : Map) (number : ℕ) : Type 0 where
  pub front : IsFront old new
  pub there : number < length new
  pub transform : map_in new number ≡ after (map_in old above) own

-- one node more, and nothing else
pub record AddsNode (node : TreeNode) (old new : NodeList) : Type 0 where
  pub nodes : new.nodes.items ≡ old.nodes.items ++ node ∷ []
  pub tables : new.tables ≡ old.tables

-- a node for a tile, whose transform is below that of its parent
pub record AddsTile (handed : Handed) (source : NodeSource) (own : WrittenParts)
    (old new : NodeList) : Type 0 where
  pub node : TreeNode
  pub takes_over : TakesOver handed node
  pub source_is : node.source ≡ source
  pub refine : node.refine ≡ unwrap_or own.refine handed.refine
  pub transform : IsBelow old.tables.transforms.items new.tables.transforms.items
      handed.transform own.transform node.transform
  pub nodes : new.nodes.items ≡ old.nodes.items ++ node ∷ []
  pub tables : new.tables ≡ record old.tables { transforms = new.tables.transforms }

-- a node for a tileset that isn't loaded
pub record AddsPending (handed : Handed) (pending : Waiting) (old new : NodeList) : Type 0 where
  pub node : TreeNode
  pub takes_over : TakesOver handed node
  pub source : node.source ≡ Pending (length old.tables.waiting.items)
  pub refine : node.refine ≡ handed.refine
  pub transform : node.transform ≡ handed.transform
  pub nodes : new.nodes.items ≡ old.nodes.items ++ node ∷ []
  pub waiting : new.tables.waiting.items ≡ old.tables.waiting.items ++ pending ∷ []
  pub tables : new.tables ≡ record old.tables { waiting = new.tables.waiting }

-- a node for an implicit tile
pub record AddsPlace (handed : Handed) (entry : PlaceEntry) (old new : NodeList) : Type 0 where
  pub node : TreeNode
  pub takes_over : TakesOver handed node
  pub source : node.source ≡ Implicit (length old.tables.places.items)
  pub transform : node.transform ≡ handed.transform
  pub nodes : new.nodes.items ≡ old.nodes.items ++ node ∷ []
  pub places : new.tables.places.items ≡ old.tables.places.items ++ entry ∷ []
  pub tables : new.tables ≡ record old.tables { places = new.tables.places }

-- ---- nodes for trees

-- further nodes that stand for these trees
pub record Grows (store : Stored) (limit : Option ℕ) (old new : NodeList)
    (ts : List Tree) : Type 0 where
  pub nodes : IsFront old.nodes.items new.nodes.items
  pub trees : node_trees store new ≡ node_trees store old ++ ts
  pub sound : IsSoundList store new
  pub within : IsWithin limit (length old.nodes.items) → IsWithin limit (length new.nodes.items)
  pub tables : Continues old.tables new.tables
  pub waits : length new.tables.waiting.items ≡ length old.tables.waiting.items + tops_wait ts

-- further nodes for all these trees, or a refusal
abbrev pub Adds : {A : Type 0} → Stored → Option ℕ → NodeList → NodeList → List Tree
    → Result A ListError → Type 0
Adds store limit old new ts (Ok a) = Grows store limit old new ts
Adds store limit old new ts (Err e) =
    Refuses limit (length old.nodes.items + length ts) e × Extends old new

-- it has fewer than 2^32 children and own contents
pub record HasFew (t : Tree) : Type 0 where
  pub children : length (children_of t) < 2 ^ 32
  pub contents : length (addresses_of t) < 2 ^ 32

-- further nodes for all children of a tree, which are few, or a refusal
abbrev pub AddsChildrenOf : {A : Type 0} → Stored → Option ℕ → NodeList → NodeList → Tree
    → Result A ListError → Type 0
AddsChildrenOf store limit old new t (Ok a) = Grows store limit old new (children_of t) × HasFew t
AddsChildrenOf store limit old new t (Err e) =
    Refuses limit (length old.nodes.items + length (children_of t)) e × Extends old new

-- the parent and its transform are there, unless the root is to come
pub record CanTake (list : NodeList) (handed : Handed) : Type 0 where
  pub parent : 0 < length list.nodes.items → handed.parent < length list.nodes.items
  pub transform : handed.transform < length list.tables.transforms.items

-- what the parent hands down, with its error
abbrev pub handed_holder : NodeList → Handed → ℕ → Holder
handed_holder list handed error = record {
  transform = map_in list.tables.transforms.items handed.transform;
  error = error;
  refine = handed.refine;
}

abbrev pub parent_name : Stored → NodeList → Handed → List ℕ
parent_name store list handed = name_of (tree_in (node_trees store list) handed.parent)

-- the child's name
abbrev pub handed_name : Stored → NodeList → Handed → List ℕ
handed_name store list handed =
    name_by (node_trees store list) (length list.nodes.items) handed.parent handed.number

-- the node of a tile that a document writes out, if it leaves one; the error of the tile above
-- tells nothing of it
abbrev pub written_at : Stored → NodeList → Handed → ℕ → ℕ → Option Tree
written_at store list handed document tile =
    option_and_then
    (written_tree (docs store) (tilesets (docs store) handed.levels) (address_in store document)
    (handed_name store list handed) (handed_holder list handed 0))
    (tile_at store document tile)

-- the nodes of written children, the first of which has this number
abbrev pub written_below : Stored → NodeList → Handed → ℕ → ℕ → WrittenTiles → List Tree
written_below store list handed document number children =
    written_trees (docs store) (tilesets (docs store) handed.levels) (address_in store document)
    (parent_name store list handed) (handed_holder list handed 0) number children

-- the nodes of the written children of a tile, of which there are `number`, or a refusal
pub record AddsChildren (store : Stored) (limit : Option ℕ) (old new : NodeList) (handed : Handed)
    (document : ℕ) (t : Option WrittenTile) (number : ℕ) : Type 0 where
  pub grows : Grows store limit old new
      (written_below store old handed document 0 (children_in t))
  pub counted : number ≡ count_of (children_in t)

abbrev pub AddsWritten : Stored → Option ℕ → NodeList → NodeList → Handed → ℕ → ℕ
    → Result ℕ ListError → Type 0
AddsWritten store limit old new handed document tile (Ok number) =
    AddsChildren store limit old new handed document (tile_at store document tile) number
AddsWritten store limit old new handed document tile (Err e) =
    Refuses limit (length old.nodes.items
    + length (written_below store old handed document 0
    (children_in (tile_at store document tile)))) e
    × Extends old new

-- the external tilesets of a tile that says this of itself
abbrev pub external_trees : Stored → NodeList → Handed → WrittenParts → List Tree
external_trees store list handed own =
    externals (tilesets (docs store) handed.levels) (parent_name store list handed)
    (handed_holder list handed
    (moved_error own.error (map_in list.tables.transforms.items handed.transform)))
    handed.number (external_of own.contents)

-- ---- implicit roots

-- the implicit root that this tile of a document is
abbrev pub handed_top : Stored → NodeList → Handed → ℕ → WrittenParts → ImplicitParts → RootTile
handed_top store list handed document own part =
    root_tile (address_in store document) (handed_name store list handed)
    (holder_of (handed_holder list handed 0) own) own part

-- one more implicit root, of this number
pub record AddsTop (store : Stored) (top : RootTile) (old new : NodeList) (number : ℕ)
    : Type 0 where
  pub nodes : new.nodes.items ≡ old.nodes.items
  pub tables : Continues old.tables new.tables
  pub waiting : new.tables.waiting.items ≡ old.tables.waiting.items
  pub is_top : IsTop store new.tables number top

-- what is handed down is that of the tile of this entry
pub record IsPlaceParent (store : Stored) (list : NodeList) (handed : Handed)
    (entry : PlaceEntry) : Type 0 where
  pub top : RootTile
  pub placed : IsPlaced store list.tables entry top
  pub name : parent_name store list handed ≡ place_name top entry.at
  pub holder : handed_holder list handed (error_at top.root entry.at) ≡ place_holder top entry.at

-- the external tilesets of the tile of this entry
abbrev pub place_external : Stored → Tables → ℕ → PlaceEntry → List Tree
place_external store tables levels entry =
    option_map_or (λ top. externals (tilesets (docs store) levels) (place_name top entry.at)
    (place_holder top entry.at) 0 (external_of (place_contents (docs store) top entry.at)))
    (top_in store tables entry.top) []

-- ---- a node that is opened

-- as before but for what no node speaks of
pub record Stays (store : Stored) (old new : NodeList) : Type 0 where
  pub nodes : new.nodes.items ≡ old.nodes.items
  pub trees : node_trees store new ≡ node_trees store old
  pub sound : IsSoundList store new

-- ---- no nodes

pub record IsEmptyList (list : NodeList) : Type 0 where
  pub nodes : list.nodes.items ≡ []
  pub waiting : list.tables.waiting.items ≡ []
  pub transforms : list.tables.transforms.items ≡ identity ∷ []
