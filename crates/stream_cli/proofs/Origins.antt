-- Each implicit tile of an expanded tree comes from a document and a subtree that are loaded.
use Rattle.std.proofs.Common.{◌≡◌, ◌+◌, ℕ, zero, suc, Option, Some, None, List, [], ◌∷◌, ◌++◌, All, flat_map, option_to_list, codes, refl}
use Rattle.std.specs.Prelude.{⊤}
use Rattle.std.proofs.lemmas.List.Elements.{All-append, All-cons, All-nil}
use Rattle.tile_types.specs.declared.key.Key.{Key}
use Rattle.tileset_schema.specs.Implicit.{ImplicitParts}
use Rattle.tileset_schema.specs.Parts.{WrittenParts}
use Rattle.tileset_schema.specs.Tiles.{WrittenTile, WrittenTiles, written, no_tiles, more_tiles}
use Rattle.subtree_binary.specs.Found.{waiting, lost, here}
use Rattle.implicit_walk.specs.declared.place.Place.{Place}
use Rattle.implicit_walk.specs.declared.presence.Presence.{Presence}
use Rattle.implicit_walk.specs.declared.presence.Presence.TheVariants.{No, Tile, Waiting}
use Rattle.implicit_walk.specs.Places.{child_places, root_place}
use Rattle.implicit_walk.specs.Presences.{presence}
use Rattle.doc_store.specs.Docs.{Docs, tileset_at, tileset_key, subtree_at}
use Rattle.expanded_tree.specs.Facts.{Facts}
use Rattle.expanded_tree.specs.Tree.{Tree, Trees, pending, explicit_tile, from_list}
use Rattle.plain_tree.specs.Preorder.{all_tree_nodes, nodes_of, tree_nodes}
use Rattle.tree_expansion.specs.declared.limits.TheConstants.{NESTING_LIMIT}
use Rattle.tree_expansion.specs.Expansion.{Holder, top_holder, holder_of, Below, child_name, own_of, external_of, externals, RootTile, place_name, place_contents, place_facts, place_holder, place_tile, implicit_node, implicit_tree, root_tile, written_facts, written_tree, written_trees, count_of, waiting_facts, tileset, tilesets, expand}

-- the document at an address is loaded, and read
abbrev pub IsThere : Docs → List ℕ → Type 0
IsThere docs base = (root : WrittenTile) × (tileset_at docs base ≡ here root)

-- it holds of each node that there may be: one that waits, a tile that a document writes out, and an
-- implicit tile of a loaded document whose subtree has its bit
pub record HoldsOfAll (docs : Docs) (P : Tree → Type 0) : Type 0 where
  pub waits : (name : List ℕ) (facts : Facts) (key : Key) → P (pending name facts key)
  pub written : (name : List ℕ) (facts : Facts) (contents : List (List ℕ)) (children : Trees)
      → P (explicit_tile name facts contents children)
  pub placed : (top : RootTile) (at : Place) (contents : List (List ℕ)) (children : List Tree)
      → IsThere docs top.root.base → presence top.root (subtree_at docs) at ≡ Tile
      → P (place_tile top at contents children)

-- it holds of each node of each of these trees
abbrev HoldIn : (Tree → Type 0) → List Tree → Type 0
HoldIn P [] = ⊤
HoldIn P (t ∷ ts) = All P (tree_nodes t) × HoldIn P ts

-- it holds of what stands below
abbrev HoldsBelow : (Tree → Type 0) → Below → Type 0
HoldsBelow P below = (name : List ℕ) (holder : Holder) (address : List ℕ)
    → All P (nodes_of (below name holder address))

abbrev tile_for : Docs → Below → List ℕ → List ℕ → Holder → WrittenParts → WrittenTiles
    → Option ImplicitParts → Option Tree
tile_for docs below base name holder own children part = elim part [
  | Some p ↦ implicit_tree docs below (root_tile base name holder own p)
  | None ↦ Some (explicit_tile name (written_facts holder own) (own_of own.contents)
      (from_list
      (written_trees docs below base name holder 0 children
      ++ externals below name holder (count_of children) (external_of own.contents))))
]

module _ (P : Tree → Type 0) where
  both : (xs ys : List Tree) → HoldIn P xs → HoldIn P ys → HoldIn P (xs ++ ys)
  both [] ys h k = k
  both (x ∷ xs) ys h k = (h.0, both xs ys h.1 k)

  optional : (o : Option Tree) → All P (nodes_of o) → HoldIn P (option_to_list o)
  optional None h = tt
  optional (Some t) h = (h, tt)

  listed : (ts : List Tree) → HoldIn P ts → All P (all_tree_nodes (from_list ts))
  listed [] h = All-nil P
  listed (t ∷ ts) h =
      All-append P (tree_nodes t) (all_tree_nodes (from_list ts)) h.0 (listed ts h.1)

  mapped : {A : Type 0} (f : A → List Tree) → ((a : A) → HoldIn P (f a)) → (xs : List A)
      → HoldIn P (flat_map f xs)
  mapped f each [] = tt
  mapped f each (x ∷ xs) = both (f x) (flat_map f xs) (each x) (mapped f each xs)

  externals_hold : (below : Below) → HoldsBelow P below → (name : List ℕ) (holder : Holder)
      (number : ℕ) (addresses : List (List ℕ))
      → HoldIn P (externals below name holder number addresses)
  externals_hold below w name holder number [] = tt
  externals_hold below w name holder number (address ∷ addresses) =
      both (option_to_list (below (child_name name number) holder address))
      (externals below name holder (number + 1) addresses)
      (optional (below (child_name name number) holder address)
      (w (child_name name number) holder address))
      (externals_hold below w name holder (number + 1) addresses)

module _ (docs : Docs) (P : Tree → Type 0) (h : HoldsOfAll docs P) where
  module _ (below : Below) (w : HoldsBelow P below) where
    node_holds : (top : RootTile) (at : Place) (contents : List (List ℕ)) (children : List Tree)
        (there : Presence) → (there ≡ Tile → P (place_tile top at contents children))
        → HoldIn P children
        → All P (nodes_of (elim there as (λ x. Option Tree) [
          | No ↦ None
          | Waiting key ↦ Some (pending (place_name top at) (place_facts top at []) key)
          | Tile ↦ Some (place_tile top at contents children)
        ]))
    node_holds top at contents children No k e = All-nil P
    node_holds top at contents children (Waiting key) k e =
        All-cons P (pending (place_name top at) (place_facts top at []) key) []
        (h.waits (place_name top at) (place_facts top at []) key) (All-nil P)
    node_holds top at contents children Tile k e =
        All-cons P (place_tile top at contents children) (all_tree_nodes (from_list children))
        (k refl) (listed P children e)

    implicit_holds : (top : RootTile) → IsThere docs top.root.base → (levels : ℕ) (at : Place)
        → All P (nodes_of (implicit_node docs below top levels at))
    implicit_holds top base zero at = All-nil P
    implicit_holds top base (suc levels) at =
        let contents : List (List ℕ) = place_contents docs top at in
        let inside : List Tree =
        flat_map (λ place. option_to_list (implicit_node docs below top levels place))
        (child_places top.root.part at) in
        let outside : List Tree =
        externals below (place_name top at) (place_holder top at) 0 (external_of contents) in
        node_holds top at contents (inside ++ outside) (presence top.root (subtree_at docs) at)
        (h.placed top at contents (inside ++ outside) base)
        (both P inside outside
        (mapped P (λ place. option_to_list (implicit_node docs below top levels place))
        (λ place. optional P (implicit_node docs below top levels place)
        (implicit_holds top base levels place)) (child_places top.root.part at))
        (externals_hold P below w (place_name top at) (place_holder top at) 0
        (external_of contents)))

    -- ---- written tiles

    mutual
      written_holds : (base : List ℕ) → IsThere docs base → (name : List ℕ) (above : Holder)
          (t : WrittenTile) → All P (nodes_of (written_tree docs below base name above t))
      written_holds base there name above (written own children) =
          let holder : Holder = holder_of above own in
          let inside : List Tree = written_trees docs below base name holder 0 children in
          let outside : List Tree =
          externals below name holder (count_of children) (external_of own.contents) in
          let facts : Facts = written_facts holder own in
          elim own.implicit as (λ part.
          All P (nodes_of (tile_for docs below base name holder own children part))) [
            | Some p ↦ implicit_holds (root_tile base name holder own p) there p.available_levels
                root_place
            | None ↦ All-cons P
                (explicit_tile name facts (own_of own.contents) (from_list (inside ++ outside)))
                (all_tree_nodes (from_list (inside ++ outside)))
                (h.written name facts (own_of own.contents) (from_list (inside ++ outside)))
                (listed P (inside ++ outside)
                (both P inside outside (all_written_hold base there name holder 0 children)
                (externals_hold P below w name holder (count_of children)
                (external_of own.contents))))
          ]

      all_written_hold : (base : List ℕ) → IsThere docs base → (name : List ℕ) (holder : Holder)
          (number : ℕ) (ts : WrittenTiles)
          → HoldIn P (written_trees docs below base name holder number ts)
      all_written_hold base there name holder number no_tiles = tt
      all_written_hold base there name holder number (more_tiles t ts) =
          both P (option_to_list (written_tree docs below base (child_name name number) holder t))
          (written_trees docs below base name holder (number + 1) ts)
          (optional P (written_tree docs below base (child_name name number) holder t)
          (written_holds base there (child_name name number) holder t))
          (all_written_hold base there name holder (number + 1) ts)

  -- ---- documents

  tileset_holds : (below : Below) → HoldsBelow P below → HoldsBelow P (tileset docs below)
  tileset_holds below w name holder address =
      elim (tileset_at docs address) as (λ f. tileset_at docs address ≡ f → All P (nodes_of
      (elim f as (λ x. Option Tree) [
        | waiting ↦ Some (pending name (waiting_facts holder) (tileset_key address))
        | lost ↦ None
        | here root ↦ written_tree docs below address name holder root
      ]))) [
        | waiting ↦ λ e.
            All-cons P (pending name (waiting_facts holder) (tileset_key address)) []
            (h.waits name (waiting_facts holder) (tileset_key address)) (All-nil P)
        | lost ↦ λ e. All-nil P
        | here root ↦ λ e. written_holds below w address (root, e) name holder root
      ] refl

  tilesets_hold : (depth : ℕ) → HoldsBelow P (tilesets docs depth)
  tilesets_hold zero name holder address = All-nil P
  tilesets_hold (suc depth) name holder address =
      tileset_holds (tilesets docs depth) (tilesets_hold depth) name holder address

  pub expanded_holds : (root : List ℕ) → All P (nodes_of (expand docs root))
  unfolding expand
  expanded_holds root =
      tileset_holds (tilesets docs NESTING_LIMIT) (tilesets_hold NESTING_LIMIT) (codes "r")
      top_holder root
