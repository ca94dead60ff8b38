-- The nodes of a list, and the trees that they stand for.
use Rattle.std.specs.Prelude.{ℕ, zero, suc, ◌≡◌, ◌≤◌, ◌<◌, ◌^◌, ⊤, Option, Some, None, List, [], ◌∷◌, ◌++◌, codes, length, slice_get, unwrap_or}
use Rattle.fixed_geometry.specs.Maps.{Map, identity}
use Rattle.volumes.specs.Limits.{error_limit}
use Rattle.volumes.specs.Moves.{moved_error}
use Rattle.tile_types.specs.declared.refine.Refine.{Refine}
use Rattle.tileset_schema.specs.Tiles.{WrittenTile, written}
use Rattle.doc_store.specs.Docs.{Docs}
use Rattle.doc_store.specs.Store.{Stored, docs}
use Rattle.expanded_tree.specs.Tree.{Tree, pending, explicit_tile, from_list, name_of}
use Rattle.tree_expansion.specs.Expansion.{Holder, Below, child_name, own_of, external_of, externals, written_facts, waiting_facts, written_trees, count_of, tilesets}
use Rattle.tree_nodes.specs.declared.node.NodeSource.{NodeSource}
use Rattle.tree_nodes.specs.declared.node.NodeSource.TheVariants.{Tile, Pending, Implicit}
use Rattle.tree_nodes.specs.declared.node.TreeNode.{TreeNode}
use Rattle.tree_nodes.specs.declared.node.Waiting.{Waiting}
use Rattle.tree_nodes.specs.declared.node_list.NodeList.{NodeList}
use Rattle.tree_nodes.specs.declared.place_entry.PlaceEntry.{PlaceEntry}
use Rattle.tree_nodes.specs.declared.tables.Tables.{Tables}
use Rattle.tree_nodes.specs.TreeIn.{no_tree, tree_in}
use Rattle.tree_nodes.specs.Tiles.{IsTileAt, address_in, contents_in, tile_at}
use Rattle.tree_nodes.specs.Places.{IsPlaceAt, place_tree, transform_in}

-- ---- what a node stands for

-- the children of a tile that hands this down
abbrev pub child_trees : Docs → Below → List ℕ → List ℕ → Holder → WrittenTile → List Tree
child_trees docs below base name holder (written own children) =
    written_trees docs below base name holder 0 children
    ++ externals below name holder (count_of children) (external_of own.contents)

-- a tile that hands this down, in the document at this address
abbrev pub tile_under : Docs → Below → List ℕ → List ℕ → Holder → WrittenTile → Tree
tile_under docs below base name holder (written own children) =
    explicit_tile name (written_facts holder own) (own_of own.contents)
    (from_list (child_trees docs below base name holder (written own children)))

-- what a tile of this computed transform and this refinement hands down
abbrev pub holder_by : Map → Refine → WrittenTile → Holder
holder_by transform refine (written own children) =
    record { transform = transform; error = moved_error own.error transform; refine = refine }

abbrev pub tile_node : Docs → Below → List ℕ → List ℕ → Map → Refine → Option WrittenTile → Tree
tile_node docs below base name transform refine None = no_tree
tile_node docs below base name transform refine (Some t) =
    tile_under docs below base name (holder_by transform refine t) t

abbrev pub pending_node : List ℕ → Map → Refine → Option Waiting → Tree
pending_node name transform refine None = no_tree
pending_node name transform refine (Some w) =
    pending name
    (waiting_facts (record { transform = transform; error = w.error; refine = refine })) w.key

-- a tile below an implicit root, or a node that waits for its subtree
abbrev pub placed_node : Stored → Tables → ℕ → Option PlaceEntry → Tree
placed_node store tables levels None = no_tree
placed_node store tables levels (Some entry) =
    unwrap_or (place_tree store tables levels entry.top entry.at) no_tree

abbrev pub source_tree : Stored → Tables → List ℕ → TreeNode → NodeSource → Tree
source_tree store tables name n (Tile document tile) =
    tile_node (docs store) (tilesets (docs store) n.levels) (address_in store document) name
    (transform_in tables n.transform) n.refine (tile_at store document tile)
source_tree store tables name n (Pending number) =
    pending_node name (transform_in tables n.transform) n.refine
    (slice_get tables.waiting.items number)
source_tree store tables name n (Implicit number) =
    placed_node store tables n.levels (slice_get tables.places.items number)

-- the name of the node at this place, by its parent, which stands before it, and its number
abbrev pub name_by : List Tree → ℕ → ℕ → ℕ → List ℕ
name_by before zero parent number = codes "r"
name_by before (suc place) parent number = child_name (name_of (tree_in before parent)) number

abbrev pub node_tree : Stored → Tables → List Tree → ℕ → TreeNode → Tree
node_tree store tables before place n =
    source_tree store tables (name_by before place n.parent n.number) n n.source

-- these trees, and behind them those of the nodes
unfoldable pub trees_behind : Stored → Tables → List Tree → List TreeNode → List Tree
trees_behind store tables before [] = before
trees_behind store tables before (n ∷ ns) =
    trees_behind store tables (before ++ node_tree store tables before (length before) n ∷ []) ns

-- the tree of each node
abbrev pub node_trees : Stored → NodeList → List Tree
node_trees store list = trees_behind store list.tables [] list.nodes.items

-- ---- nodes that stand for something

-- a tileset that isn't loaded has this number
pub record IsPending (tables : Tables) (number : ℕ) : Type 0 where
  pub entry : Waiting
  pub at : slice_get tables.waiting.items number ≡ Some entry
  pub error : entry.error ≤ error_limit

abbrev pub IsThere : Stored → Tables → NodeSource → Type 0
IsThere store tables (Tile document tile) = IsTileAt store document tile
IsThere store tables (Pending number) = IsPending tables number
IsThere store tables (Implicit number) = IsPlaceAt store tables number

-- a tile's own contents have numbers
abbrev pub HasFewContents : Stored → NodeSource → Type 0
HasFewContents store (Tile document tile) =
    length (own_of (contents_in (tile_at store document tile))) < 2 ^ 32
HasFewContents store (Pending number) = ⊤
HasFewContents store (Implicit number) = ⊤

-- with these tables
pub record IsSound (store : Stored) (tables : Tables) (place : ℕ) (n : TreeNode) : Type 0 where
  pub below : 0 < place → n.parent < place
  pub transform : n.transform < length tables.transforms.items
  pub there : IsThere store tables n.source
  pub few : HasFewContents store n.source

abbrev pub AreSoundIn : Stored → Tables → List TreeNode → Type 0
AreSoundIn store tables nodes =
    (place : ℕ) (n : TreeNode) → slice_get nodes place ≡ Some n → IsSound store tables place n

-- the first transform is the identity, which the root is under
abbrev pub HasIdentity : NodeList → Type 0
HasIdentity list = slice_get list.tables.transforms.items 0 ≡ Some identity

pub record IsSoundList (store : Stored) (list : NodeList) : Type 0 where
  pub nodes : AreSoundIn store list.tables list.nodes.items
  pub first : HasIdentity list
