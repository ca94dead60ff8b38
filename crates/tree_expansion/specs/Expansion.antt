-- The expanded tree of the documents at hand: tilesets, and the subtrees of implicit tiles.
use Rattle.std.specs.Prelude.{ℕ, zero, suc, ◌+◌, ◌==◌, not, Bool, true, false, if◌then◌else◌, Option, Some, None, option_map, option_to_list, unwrap_or, List, [], ◌∷◌, ◌++◌, filter, filter_map, length, codes, decimal}
use Rattle.std.specs.List.{flat_map, range_with_len}
use Rattle.fixed_geometry.specs.Maps.{Map, after, identity}
use Rattle.volumes.specs.declared.volume.Volume.{Volume}
use Rattle.volumes.specs.Moves.{moved, moved_error}
use Rattle.tile_types.specs.declared.refine.Refine.{Refine}
use Rattle.tile_types.specs.declared.refine.Refine.TheVariants.{Replace}
use Rattle.tile_uri.specs.Addresses.{is_external}
use Rattle.tileset_schema.specs.Implicit.{ImplicitParts}
use Rattle.tileset_schema.specs.Parts.{WrittenParts}
use Rattle.tileset_schema.specs.Tiles.{WrittenTile, WrittenTiles, written, no_tiles, more_tiles}
use Rattle.subtree_binary.specs.Found.{waiting, lost, here}
use Rattle.implicit_walk.specs.declared.place.Place.{Place}
use Rattle.implicit_walk.specs.declared.presence.Presence.TheVariants.{No, Tile, Waiting}
use Rattle.implicit_walk.specs.Places.{root_place, child_places, number_in_subtree}
use Rattle.implicit_walk.specs.Roots.{RootParts, subtree_key, volume_at, error_at}
use Rattle.implicit_walk.specs.Presences.{presence, content_at}
use Rattle.doc_store.specs.Docs.{Docs, tileset_at, tileset_key, subtree_at}
use Rattle.expanded_tree.specs.Facts.{Facts}
use Rattle.expanded_tree.specs.Tree.{Tree, Origin, tile, pending, explicit_tile, from_list}
use Rattle.tree_expansion.specs.declared.limits.TheConstants.{NESTING_LIMIT}

-- what a tile hands down to what lies below it: its computed transform, its moved error and its
-- refinement
pub record Holder : Type 0 where
  pub transform : Map
  pub error : ℕ
  pub refine : Refine

-- above the root document's root: no transform, and a root that doesn't say how it is refined is
-- REPLACE
abbrev pub top_holder : Holder
top_holder = record { transform = identity; error = 0; refine = Replace }

-- what a tile hands down, below what is handed down to it: OGC 22-025r4, "Tile transforms",
-- "Refinement"
abbrev pub holder_of : Holder → WrittenParts → Holder
holder_of above own =
    let transform = after above.transform own.transform in
    record {
      transform = transform;
      error = moved_error own.error transform;
      refine = unwrap_or own.refine above.refine;
    }

-- a child's name: its holder's, and its number among the children
abbrev pub child_name : List ℕ → ℕ → List ℕ
child_name name number = name ++ codes "/" ++ decimal number

-- ---- contents

-- a content whose address names no external tileset is a tile's own
abbrev pub own_of : List (List ℕ) → List (List ℕ)
own_of contents = filter (λ address. not (is_external address)) contents

abbrev pub external_of : List (List ℕ) → List (List ℕ)
external_of contents = filter is_external contents

abbrev pub is_some_left : {A : Type 0} → List A → Bool
is_some_left [] = false
is_some_left (x ∷ xs) = true

-- ---- external tilesets (OGC 22-025r4, "External tilesets")

-- what stands for an external tileset: its name, its holder and its address give a node, or none
abbrev pub Below : Type 0
Below = List ℕ → Holder → List ℕ → Option Tree

-- the nodes of external contents, the first of which has this number
abbrev pub externals : Below → List ℕ → Holder → ℕ → List (List ℕ) → List Tree
externals below name holder number [] = []
externals below name holder number (address ∷ addresses) =
    option_to_list (below (child_name name number) holder address)
    ++ externals below name holder (number + 1) addresses

-- ---- implicit tiles (OGC 22-025r4, "Implicit Tiling")

-- an implicit root: its name, what it hands down, its request volume, moved, and what says which
-- tiles there are below it
pub record RootTile : Type 0 where
  pub name : List ℕ
  pub holder : Holder
  pub request : Option Volume
  pub root : RootParts

-- the numbers of a place, a full stop before each; a quadtree has no z
abbrev pub place_numbers : Bool → Place → List ℕ
place_numbers octree at =
    codes "." ++ decimal at.x ++ codes "." ++ decimal at.y
    ++ (if octree then codes "." ++ decimal at.z else [])

-- the name of the tile at a place; level 0 keeps the name of the implicit root
abbrev pub place_name : RootTile → Place → List ℕ
place_name top at =
    if at.level == 0 then top.name
    else top.name ++ codes "!" ++ decimal at.level ++ place_numbers top.root.part.octree at

-- the request volume is that of the tile which is written, at level 0
abbrev pub request_at : RootTile → Place → Option Volume
request_at top at = if at.level == 0 then top.request else None

-- the contents of the tile at a place, in the order of their templates
abbrev pub place_contents : Docs → RootTile → Place → List (List ℕ)
place_contents docs top at =
    filter_map (content_at top.root (subtree_at docs) at)
    (range_with_len 0 (length top.root.part.contents))

-- of the node at a place with these contents: while its subtree isn't loaded none are known
abbrev pub place_facts : RootTile → Place → List (List ℕ) → Facts
place_facts top at contents = record {
  volume = Some (volume_at top.root at);
  request = request_at top at;
  error = error_at top.root at;
  refine = top.holder.refine;
  external = is_some_left (external_of contents);
}

-- the transform and the refinement are those of the implicit root
abbrev pub place_holder : RootTile → Place → Holder
place_holder top at = record top.holder { error = error_at top.root at }

abbrev pub place_origin : RootTile → Place → Option Origin
place_origin top at =
    option_map
    (λ key. record {
      document = top.root.base;
      subtree = key;
      index = number_in_subtree top.root.part at;
    })
    (subtree_key top.root at)

-- the tile at a place, with these contents and children
abbrev pub place_tile : RootTile → Place → List (List ℕ) → List Tree → Tree
place_tile top at contents children = tile (record {
  name = place_name top at;
  facts = place_facts top at contents;
  contents = own_of contents;
  origin = place_origin top at;
}) (from_list children)

-- the node at a place whose parent is a tile, where so many levels are left, its own counted: its
-- children in Morton order, and behind them a node for each external content, numbered from 0
abbrev pub implicit_node : Docs → Below → RootTile → ℕ → Place → Option Tree
implicit_node docs below top zero at = None
implicit_node docs below top (suc levels) at =
    let contents = place_contents docs top at in
    elim (presence top.root (subtree_at docs) at) [
      | No ↦ None
      | Waiting key ↦ Some (pending (place_name top at) (place_facts top at []) key)
      | Tile ↦ Some (place_tile top at contents (
          flat_map (λ place. option_to_list (implicit_node docs below top levels place))
          (child_places top.root.part at)
          ++ externals below (place_name top at) (place_holder top at) 0 (external_of contents)))
    ]

-- the node of an implicit root, with all levels that are available
abbrev pub implicit_tree : Docs → Below → RootTile → Option Tree
implicit_tree docs below top =
    implicit_node docs below top top.root.part.available_levels root_place

-- ---- written tiles (OGC 22-025r4, "Tiles")

abbrev pub moved_request : Holder → WrittenParts → Option Volume
moved_request holder own = option_map (λ volume. moved volume holder.transform) own.request

abbrev pub written_facts : Holder → WrittenParts → Facts
written_facts holder own = record {
  volume = Some (moved own.volume holder.transform);
  request = moved_request holder own;
  error = holder.error;
  refine = holder.refine;
  external = is_some_left (external_of own.contents);
}

-- a tile with an implicit part, in the document at this address, as an implicit root of this name
abbrev pub root_tile : List ℕ → List ℕ → Holder → WrittenParts → ImplicitParts → RootTile
root_tile base name holder own part = record {
  name = name;
  holder = holder;
  request = moved_request holder own;
  root = record {
    part = part;
    base = base;
    volume = moved own.volume holder.transform;
    error = holder.error;
  };
}

-- how many children there are
abbrev pub count_of : WrittenTiles → ℕ
count_of no_tiles = 0
count_of (more_tiles t ts) = count_of ts + 1

abbrev mutual
  -- the tile of this name, below what is handed down to it, in the document at this address: its
  -- written children, and behind them a node for each external content, numbered on. A child that
  -- leaves no node keeps its number. An implicit root has the tiles of its subtrees below it
  pub written_tree : Docs → Below → List ℕ → List ℕ → Holder → WrittenTile → Option Tree
  written_tree docs below base name above (written own children) =
      let holder = holder_of above own in
      elim own.implicit [
        | Some part ↦ implicit_tree docs below (root_tile base name holder own part)
        | None ↦ Some (explicit_tile name (written_facts holder own) (own_of own.contents)
            (from_list
            (written_trees docs below base name holder 0 children
            ++ externals below name holder (count_of children) (external_of own.contents))))
      ]

  -- the written children, the first of which has this number
  pub written_trees : Docs → Below → List ℕ → List ℕ → Holder → ℕ → WrittenTiles → List Tree
  written_trees docs below base name holder number no_tiles = []
  written_trees docs below base name holder number (more_tiles t ts) =
      option_to_list (written_tree docs below base (child_name name number) holder t)
      ++ written_trees docs below base name holder (number + 1) ts

-- ---- documents

-- of a document that isn't loaded its holder's error is known
abbrev pub waiting_facts : Holder → Facts
waiting_facts holder = record {
  volume = None;
  request = None;
  error = holder.error;
  refine = holder.refine;
  external = false;
}

-- the root of a document: a pending node while it isn't loaded, and no node where it is lost
abbrev pub tileset : Docs → Below → Below
tileset docs below name holder address =
    elim (tileset_at docs address) [
      | waiting ↦ Some (pending name (waiting_facts holder) (tileset_key address))
      | lost ↦ None
      | here root ↦ written_tree docs below address name holder root
    ]

-- external tilesets, as deep as this
abbrev pub tilesets : Docs → ℕ → Below
tilesets docs zero name holder address = None
tilesets docs (suc depth) name holder address =
    tileset docs (tilesets docs depth) name holder address

-- the whole tree of the document at the address `root`
unfoldable pub expand : Docs → List ℕ → Option Tree
expand docs root = tileset docs (tilesets docs NESTING_LIMIT) (codes "r") top_holder root
