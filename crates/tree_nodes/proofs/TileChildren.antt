-- The children of a node of the list.
use Rattle.std.proofs.Common.{ℕ, ◌≡◌, ◌+◌, ◌<◌, ◌≤◌, ◌^◌, not, Option, Some, None, option_to_list, List, [], ◌∷◌, ◌++◌, length, get_or, refl, sym, ◌∙◌, ap, subst, arith, length-append}
use Rattle.std.specs.List.{slice_get}
use Rattle.std.proofs.lemmas.List.Sums.{length-filter, count_by-le-length}
use Rattle.std.proofs.lemmas.Option.{slice_get_read, slice_get_within}
use Rattle.tile_uri.specs.Addresses.{IsAddress, is_external}
use Rattle.fixed_geometry.specs.Maps.{Map}
use Rattle.volumes.specs.Moves.{moved_error}
use Rattle.tile_types.specs.declared.refine.Refine.{Refine}
use Rattle.tileset_schema.specs.Parts.{WrittenParts}
use Rattle.tileset_schema.specs.Tiles.{WrittenTile, WrittenTiles, written, no_tiles, more_tiles, tile_count, tiles_count}
use Rattle.tileset_schema.specs.Preorder.{Row}
use Rattle.doc_store.specs.Docs.{Docs}
use Rattle.doc_store.specs.Store.{Stored, docs}
use Rattle.expanded_tree.specs.Tree.{Tree, addresses_of, children_of, name_of}
use Rattle.expanded_tree.proofs.Trees.{list_of-from_list}
use Rattle.tree_expansion.specs.Expansion.{Holder, Below, child_name, count_of, external_of, externals, own_of, tilesets, written_tree, written_trees}
use Rattle.tree_nodes.specs.declared.error.ListError.{ListError}
use Rattle.tree_nodes.specs.declared.node.Handed.{Handed}
use Rattle.tree_nodes.specs.declared.node.NodeSource.TheVariants.{Tile, Pending}
use Rattle.tree_nodes.specs.declared.node.TreeNode.{TreeNode}
use Rattle.tree_nodes.specs.declared.node.Waiting.{Waiting}
use Rattle.tree_nodes.specs.declared.node_list.NodeList.{NodeList}
use Rattle.tree_nodes.specs.TreeIn.{tree_in}
use Rattle.tree_nodes.specs.Tiles.{IsTileAt, StandsIn, address_in, children_in, document_rows, row_of, tile_at}
use Rattle.tree_nodes.specs.Places.{map_in}
use Rattle.tree_nodes.specs.Nodes.{IsSound, IsSoundList, IsThere, child_trees, holder_by, name_by, node_tree, node_trees, pending_node, source_tree, tile_node, tile_under}
use Rattle.tree_nodes.specs.Growth.{AddsChildren, CanTake, Grows, HasFew, Refuses, external_trees, handed_holder, parent_name, written_below}
use Rattle.tree_nodes.proofs.Growing.{can_still, grows_left, grows_length, grows_map, grows_none, grows_then}
use Rattle.tree_nodes.proofs.NodeTrees.{tree_at_node}
use Rattle.tree_nodes.proofs.Refusals.{refuses_more}
use Rattle.tree_nodes.proofs.Rows.{is_at, read_row, row_size, row_within, stands_in}
use Rattle.tree_nodes.proofs.WrittenChildren.{length-written_trees}

-- what a node hands to its child of this number
abbrev pub handed_by : ℕ → TreeNode → ℕ → Handed
handed_by place n number = record {
  parent = place;
  transform = n.transform;
  number = number;
  levels = n.levels;
  refine = n.refine;
}

module _ (docs : Docs) (below : Below) (base name : List ℕ) where
  under_children : (holder : Holder) (t : WrittenTile)
      → children_of (tile_under docs below base name holder t)
      ≡ child_trees docs below base name holder t
  under_children holder (written own children) =
      list_of-from_list (child_trees docs below base name holder (written own children))

  under_contents : (holder : Holder) (t : WrittenTile)
      → addresses_of (tile_under docs below base name holder t) ≡ own_of (row_of t).parts.contents
  under_contents holder (written own children) = refl

  pub under_name : (holder : Holder) (t : WrittenTile)
      → name_of (tile_under docs below base name holder t) ≡ name
  under_name holder (written own children) = refl

  -- the error of the tile tells nothing of what its children are
  without_error : (map : Map) (error : ℕ) (refine : Refine) (number : ℕ) (ts : WrittenTiles)
      → written_trees docs below base name
      (record { transform = map; error = error; refine = refine }) number ts
      ≡ written_trees docs below base name
      (record { transform = map; error = 0; refine = refine }) number ts
  without_error map error refine number no_tiles = refl
  without_error map error refine number (more_tiles (written own children) ts) =
      ap (λ us. option_to_list (written_tree docs below base (child_name name number)
      (record { transform = map; error = 0; refine = refine }) (written own children)) ++ us)
      (without_error map error refine (number + 1) ts)

  -- those that are written, and those of external tilesets
  parted : (map : Map) (refine : Refine) (t : WrittenTile)
      → child_trees docs below base name (holder_by map refine t) t
      ≡ written_trees docs below base name
      (record { transform = map; error = 0; refine = refine }) 0 (children_in (Some t))
      ++ externals below name
      (record {
        transform = map;
        error = moved_error (row_of t).parts.error map;
        refine = refine;
      }) (count_of (children_in (Some t))) (external_of (row_of t).parts.contents)
  parted map refine (written own children) =
      ap (λ us. us ++ externals below name
      (record { transform = map; error = moved_error own.error map; refine = refine })
      (count_of children) (external_of own.contents))
      (without_error map (moved_error own.error map) refine 0 children)

length-externals : (below : Below) (name : List ℕ) (holder : Holder) (number : ℕ)
    (addresses : List (List ℕ))
    → length (externals below name holder number addresses) ≤ length addresses
length-externals below name holder number [] = omega arith
length-externals below name holder number (x ∷ xs) =
    omega (
      arith,
      one (below (child_name name number) holder x),
      length-append
          (option_to_list (below (child_name name number) holder x))
          (externals below name holder (number + 1) xs),
      length-externals below name holder
          (number + 1) xs,
    )
  where
    one : (o : Option Tree) → length (option_to_list o) ≤ 1
    one None = omega arith
    one (Some t) = omega arith

length-own_of : (xs : List (List ℕ)) → length (own_of xs) ≤ length xs
length-own_of xs =
    omega (
      arith,
      length-filter (λ x. not (is_external x)) xs,
      count_by-le-length
          (λ x. not (is_external x)) xs,
    )

length-external_of : (xs : List (List ℕ)) → length (external_of xs) ≤ length xs
length-external_of xs =
    omega (arith, length-filter is_external xs, count_by-le-length is_external xs)

module _ (store : Stored) (list : NodeList) (place : ℕ) (n : TreeNode)
    (sound : IsSoundList store list)
    (at : slice_get list.nodes.items place ≡ Some n) where
  pub is_sound : IsSound store list.tables place n
  is_sound = sound.nodes place n at

  pub tree_is : tree_in (node_trees store list) place
      ≡ node_tree store list.tables (node_trees store list) place n
  tree_is = tree_at_node store list.tables list.nodes.items place n at
      is_sound.below

  -- a pending node has no child
  none_waiting : (w : ℕ) → n.source ≡ Pending w
      → children_of (tree_in (node_trees store list) place) ≡ []
  none_waiting w e =
      ap children_of
      (tree_is ∙ ap (source_tree store list.tables
      (name_by (node_trees store list) place n.parent n.number) n) e)
      ∙ no_child (slice_get list.tables.waiting.items w)
    where
      no_child : (o : Option Waiting)
          → children_of (pending_node (name_by (node_trees store list) place n.parent n.number)
          (map_in list.tables.transforms.items n.transform) n.refine o) ≡ []
      no_child None = refl
      no_child (Some v) = refl

  pub nothing_waiting : (w : ℕ) → n.source ≡ Pending w
      → addresses_of (tree_in (node_trees store list) place) ≡ []
  nothing_waiting w e =
      ap addresses_of
      (tree_is ∙ ap (source_tree store list.tables
      (name_by (node_trees store list) place n.parent n.number) n) e)
      ∙ no_content (slice_get list.tables.waiting.items w)
    where
      no_content : (o : Option Waiting)
          → addresses_of (pending_node (name_by (node_trees store list) place n.parent n.number)
          (map_in list.tables.transforms.items n.transform) n.refine o) ≡ []
      no_content None = refl
      no_content (Some v) = refl

  module _ (document tile : ℕ) (source : n.source ≡ Tile document tile) where
    pub there : IsTileAt store document tile
    there = subst (IsThere store list.tables) source is_sound.there

    pub tile_is : (t : WrittenTile) → tile_at store document tile ≡ Some t
        → tree_in (node_trees store list) place
        ≡ tile_under (docs store) (tilesets (docs store) n.levels) (address_in store document)
        (name_by (node_trees store list) place n.parent n.number)
        (holder_by (map_in list.tables.transforms.items n.transform) n.refine t) t
    tile_is t found =
        let name = name_by (node_trees store list) place n.parent n.number in
        tree_is
        ∙ ap (source_tree store list.tables name n) source
        ∙ ap (tile_node (docs store) (tilesets (docs store) n.levels) (address_in store document)
        name (map_in list.tables.transforms.items n.transform) n.refine) found

    pub contents_are : (t : WrittenTile) → tile_at store document tile ≡ Some t
        → addresses_of (tree_in (node_trees store list) place) ≡ own_of (row_of t).parts.contents
    contents_are t found =
        ap addresses_of (tile_is t found)
        ∙ under_contents (docs store) (tilesets (docs store) n.levels) (address_in store document)
        (name_by (node_trees store list) place n.parent n.number)
        (holder_by (map_in list.tables.transforms.items n.transform) n.refine t) t

    -- its children
    children_are : (t : WrittenTile) → tile_at store document tile ≡ Some t
        → children_of (tree_in (node_trees store list) place)
        ≡ written_below store list (handed_by place n 0) document 0 (children_in (Some t))
        ++ external_trees store list (handed_by place n (count_of (children_in (Some t))))
        (row_of t).parts
    children_are t found =
        let below = tilesets (docs store) n.levels in
        let base = address_in store document in
        let name = name_by (node_trees store list) place n.parent n.number in
        let map = map_in list.tables.transforms.items n.transform in
        let holder = holder_by map n.refine t in
        let is : tree_in (node_trees store list) place
        ≡ tile_under (docs store) below base name holder t =
        tile_is t found in
        let named : name ≡ name_of (tree_in (node_trees store list) place) =
        sym (ap name_of is ∙ under_name (docs store) below base name holder t) in
        ap children_of is
        ∙ under_children (docs store) below base name holder t
        ∙ ap (λ m. child_trees (docs store) below base m holder t) named
        ∙ parted (docs store) below base (name_of (tree_in (node_trees store list) place)) map
        n.refine t

-- a tile at a place of the list, which says this of itself, and its children
pub record Parent (store : Stored) (list : NodeList) (place : ℕ) (n : TreeNode) (document tile : ℕ)
    (tiles : List Row) (own : WrittenParts) : Type 0 where
  pub can : CanTake list (handed_by place n 0)
  pub some : 0 < length list.nodes.items
  pub stands : StandsIn tiles tile
  pub address : IsAddress (address_in store document)
  pub room : count_of (children_in (tile_at store document tile)) + length own.contents < 2 ^ 32
  pub children : children_of (tree_in (node_trees store list) place)
      ≡ written_below store list (handed_by place n 0) document 0
      (children_in (tile_at store document tile))
      ++ external_trees store list
      (handed_by place n (count_of (children_in (tile_at store document tile)))) own
  pub contents : addresses_of (tree_in (node_trees store list) place) ≡ own_of own.contents

few_children : (ts : WrittenTiles) → count_of ts ≤ tiles_count ts
few_children no_tiles = omega arith
few_children (more_tiles (written own children) ts) = omega (arith, few_children ts)

few_of_tile : (t : WrittenTile) → count_of (children_in (Some t)) < tile_count t
few_of_tile (written own children) = omega (arith, few_children children)

parent : (store : Stored) (list : NodeList) (place : ℕ) (n : TreeNode) (document tile : ℕ)
    (tiles : List Row) (row : Row)
    → IsSoundList store list → slice_get list.nodes.items place ≡ Some n
    → n.source ≡ Tile document tile
    → document_rows store document ≡ Some tiles
    → slice_get tiles tile ≡ Some row → length row.parts.contents + row.size < 2 ^ 32
    → Parent store list place n document tile tiles row.parts
parent store list place n document tile tiles row sound at source read own short =
    let here = there store list place n sound at document tile source in
    let stands = stands_in store document tile tiles here read in
    let found = is_at store document tile tiles here.tree read stands in
    let row_is = read_row store document tile tiles here read row own in
    let same : Some row_is.tree ≡ Some here.tree = sym row_is.at ∙ found in
    let tree_same : row_is.tree ≡ here.tree = cc in
    let parts : row.parts ≡ (row_of here.tree).parts =
    ap (λ (r : Row). r.parts) (row_is.row_is ∙ ap row_of tree_same) in
    let size : row.size ≡ tile_count here.tree =
    ap (λ (r : Row). r.size) (row_is.row_is ∙ ap row_of tree_same) ∙ row_size here.tree in
    let is = is_sound store list place n sound at in
    let within = slice_get_within list.nodes.items place n at in
    let C : Option WrittenTile → WrittenParts → Type 0 =
    λ o p. children_of (tree_in (node_trees store list) place)
    ≡ written_below store list (handed_by place n 0) document 0 (children_in o)
    ++ external_trees store list (handed_by place n (count_of (children_in o))) p in
    record {
      can = record { parent = λ h. within; transform = is.transform };
      some = omega (arith, within);
      stands = record { tree = here.tree; stands = stands };
      address = here.address;
      room =
          omega (
            arith,
            ap (λ o. count_of (children_in o)) found,
            few_of_tile here.tree,
            size,
            short,
          );
      children = subst (λ o. C o row.parts) (sym found) (subst (C (Some here.tree)) (sym parts)
          (children_are store list place n sound at document tile source here.tree found));
      contents = contents_are store list place n sound at document tile source here.tree found
          ∙ ap (λ (o : WrittenParts). own_of o.contents) (sym parts);
    }

-- the same by what calls tell
pub parent_by : (store : Stored) (list : NodeList) (place : ℕ) (n : TreeNode) (document tile : ℕ)
    (tiles rs : List Row) (row : Row)
    → IsSoundList store list → slice_get list.nodes.items place ≡ Some n
    → n.source ≡ Tile document tile
    → Some rs ≡ document_rows store document → tiles ≡ rs
    → row ≡ get_or tiles tile row → length row.parts.contents + row.size < 2 ^ 32
    → Parent store list place n document tile tiles row.parts
parent_by store list place n document tile tiles rs row sound at source read same own short =
    let found : document_rows store document ≡ Some tiles = sym read ∙ ap Some (sym same) in
    let within =
    row_within store document tile tiles (there store list place n sound at document tile
    source) found in
    parent store list place n document tile tiles row sound at source found
    (slice_get_read tiles _ tile row refl within own) short

-- a pending node has no nodes to add
pub no_children : (store : Stored) (limit : Option ℕ) (list : NodeList) (place : ℕ)
    (n : TreeNode) (w : ℕ)
    → IsSoundList store list → place < length list.nodes.items → n ≡ get_or list.nodes.items place n
    → n.source ≡ Pending w
    → Grows store limit list list (children_of (tree_in (node_trees store list) place))
    × HasFew (tree_in (node_trees store list) place)
no_children store limit list place n w sound within at source =
    let read = slice_get_read list.nodes.items _ place n refl within at in
    let none = none_waiting store list place n sound read w source in (
      subst (Grows store limit list list) (sym none) (grows_none store limit list sound),
      record {
        children = omega (arith, ap length none);
        contents =
            omega (arith, ap length (nothing_waiting store list place n sound read w source));
      },
    )

module _ (store : Stored) (limit : Option ℕ) (old mid : NodeList) (place : ℕ) (n : TreeNode)
    (document tile : ℕ) (tiles : List Row) (own : WrittenParts)
    (p : Parent store old place n document tile tiles own) where
  abbrev children : WrittenTiles
  children = children_in (tile_at store document tile)

  abbrev below : Below
  below = tilesets (docs store) n.levels

  abbrev name : List ℕ
  name = parent_name store old (handed_by place n 0)

  abbrev error : ℕ
  error = moved_error own.error (map_in old.tables.transforms.items n.transform)

  abbrev written_part : List Tree
  written_part = written_below store old (handed_by place n 0) document 0 children

  abbrev external_part : List Tree
  external_part = external_trees store old (handed_by place n (count_of children)) own

  counted : length (children_of (tree_in (node_trees store old) place)) ≡ length written_part
      + length external_part
  counted = omega (arith, ap length p.children, length-append written_part external_part)

  few_written : length written_part ≤ count_of children
  few_written =
      length-written_trees (docs store) below (address_in store document) name
      (handed_holder old (handed_by place n 0) 0) 0 children

  -- too many written children
  pub refused_written : (e : ListError)
      → Refuses limit (length old.nodes.items
      + length (written_below store old (handed_by place n 0) document 0
      (children_in (tile_at store document tile)))) e
      → Refuses limit
      (length old.nodes.items + length (children_of (tree_in (node_trees store old) place))) e
  refused_written e r =
      refuses_more limit (length old.nodes.items + length written_part)
      (length old.nodes.items + length (children_of (tree_in (node_trees store old) place))) e
      (omega (arith, counted)) r

  module _ (number : ℕ) (w : AddsChildren store limit old mid (handed_by place n 0)
      document (tile_at store document tile) number) where
    pub sound_mid : IsSoundList store mid
    sound_mid = w.grows.sound

    nodes_mid : length mid.nodes.items ≡ length old.nodes.items + length written_part
    nodes_mid = grows_length store limit old mid written_part w.grows

    pub can_mid : CanTake mid (handed_by place n number)
    can_mid =
        let still = can_still store limit old mid written_part (handed_by place n 0) w.grows p.can
        p.some in
        record { parent = still.parent; transform = still.transform }

    pub some_mid : 0 < length mid.nodes.items
    some_mid = omega (arith, p.some, nodes_mid)

    pub room_mid : number + length own.contents < 2 ^ 32
    room_mid = omega (arith, w.counted, p.room)

    abbrev made : List ℕ → Map → ℕ → List Tree
    made m map k =
        externals below m (record {
          transform = map;
          error = moved_error own.error map;
          refine = n.refine;
        }) k (external_of own.contents)

    externals_same : external_trees store mid (handed_by place n number) own ≡ external_part
    externals_same =
        ap (λ t. made (name_of t) (map_in mid.tables.transforms.items n.transform) number)
        (grows_left store limit old mid written_part w.grows place (p.can.parent p.some))
        ∙ ap (λ map. made name map number)
        (grows_map store limit old mid written_part w.grows n.transform p.can.transform)
        ∙ ap (made name (map_in old.tables.transforms.items n.transform)) w.counted

    pub refused_external : (e : ListError)
        → Refuses limit
        (length mid.nodes.items + length
        (external_trees store mid (handed_by place n number) own)) e
        → Refuses limit
        (length old.nodes.items + length (children_of (tree_in (node_trees store old) place))) e
    refused_external e r =
        refuses_more limit
        (length mid.nodes.items + length
        (external_trees store mid (handed_by place n number) own))
        (length old.nodes.items + length (children_of (tree_in (node_trees store old) place))) e
        (omega (arith, counted, nodes_mid, ap length externals_same)) r

    pub all_children : (new : NodeList)
        → Grows store limit mid new (external_trees store mid (handed_by place n number) own)
        → Grows store limit old new (children_of (tree_in (node_trees store old) place))
        × HasFew (tree_in (node_trees store old) place)
    all_children new g = (
      subst (Grows store limit old new) (sym p.children)
          (grows_then store limit old mid new written_part external_part w.grows
          (subst (Grows store limit mid new) externals_same g)),
      record {
        children = omega (
          arith,
          counted,
          few_written,
          p.room,
          length-externals below name (handed_holder old (handed_by place n (count_of children))
              error) (count_of children) (external_of own.contents),
          length-external_of own.contents,
        );
        contents = omega (arith, ap length p.contents, length-own_of own.contents, p.room);
      },
    )
