-- What is read of the nodes of a list.
use Rattle.std.proofs.Common.{ℕ, suc, ◌≡◌, ◌+◌, ◌-◌, ◌<◌, ◌^◌, Option, Some, None, option_to_list, unwrap_or, List, [], ◌∷◌, ◌++◌, drop, filter_map, get_or, length, refl, sym, ◌∙◌, ap, subst, arith, length-drop}
use Rattle.std.specs.List.{flat_map, range_with_len, slice_get}
use Rattle.std.specs.Option.{option_and_then}
use Rattle.std.proofs.lemmas.List.{length-take}
use Rattle.std.proofs.lemmas.Option.{slice_get_read, slice_get_within}
use Rattle.fixed_geometry.specs.Maps.{Map}
use Rattle.volumes.specs.Moves.{moved_error}
use Rattle.tile_types.specs.declared.key.Key.{Key}
use Rattle.tile_types.specs.declared.refine.Refine.{Refine}
use Rattle.tileset_schema.specs.Parts.{WrittenParts}
use Rattle.tileset_schema.specs.Tiles.{WrittenTile, written}
use Rattle.tileset_schema.specs.Preorder.{Row}
use Rattle.implicit_walk.specs.declared.place.Place.{Place}
use Rattle.implicit_walk.specs.declared.presence.Presence.TheVariants as presence
use Rattle.implicit_walk.specs.Places.{IsPlace, child_places}
use Rattle.implicit_walk.specs.Presences.{content_at, content_by, of_tile, presence as presence_at, subtree_at as found_at}
use Rattle.doc_store.specs.Docs.{Docs, subtree_at}
use Rattle.doc_store.specs.Store.{Stored, docs}
use Rattle.expanded_tree.specs.Facts.{Facts}
use Rattle.expanded_tree.specs.Tree.{Tree, addresses_of, facts_of, key_of, name_of, pending}
use Rattle.tree_expansion.specs.Expansion.{Below, Holder, RootTile, external_of, externals, implicit_node, own_of, place_contents, place_facts, place_holder, place_name, place_tile, tilesets, waiting_facts, written_facts}
use Rattle.tree_nodes.specs.declared.node.NodeSource.{NodeSource}
use Rattle.tree_nodes.specs.declared.node.NodeSource.TheVariants.{Tile, Pending, Implicit}
use Rattle.tree_nodes.specs.declared.node.TreeNode.{TreeNode}
use Rattle.tree_nodes.specs.declared.node.Waiting.{Waiting}
use Rattle.tree_nodes.specs.declared.node_list.NodeList.{NodeList}
use Rattle.tree_nodes.specs.declared.place_entry.PlaceEntry.{PlaceEntry}
use Rattle.tree_nodes.specs.declared.place_entry.SubtreeState.{SubtreeState}
use Rattle.tree_nodes.specs.declared.place_entry.SubtreeState.TheVariants.{Read, Awaited}
use Rattle.tree_nodes.specs.declared.stretch.Stretch.{Stretch}
use Rattle.tree_nodes.specs.declared.tables.Tables.{Tables}
use Rattle.tree_nodes.specs.TreeIn.{no_tree, tree_in}
use Rattle.tree_nodes.specs.Tiles.{HasRow, address_in, contents_in, row_of, tile_at}
use Rattle.tree_nodes.specs.Places.{HasTop, IsPlaceAt, IsPlaced, IsState, IsStretch, IsTop, levels_left, node_at, top_by, top_in, top_of, transform_in}
use Rattle.tree_nodes.specs.Nodes.{HasFewContents, IsPending, IsSoundList, IsThere, holder_by, name_by, node_trees, pending_node, placed_node, source_tree, tile_node, tile_under}
use Rattle.tree_nodes.proofs.Elements.{slice_get-drop, slice_get-take}
use Rattle.tree_nodes.proofs.Rows.{is_at}
use Rattle.tree_nodes.proofs.TileChildren.{is_sound, there, tree_is}

-- ---- parts of lists

module _ {A : Type 0} (xs : List A) (s : Stretch) (ys : List A) (is : IsStretch xs s ys) where
  -- there are so many
  pub stretch_count : s.count ≡ length ys
  stretch_count = omega (
    arith,
    is.there,
    ap length is.is,
    length-take s.count (drop s.first xs),
    length-drop s.first xs,
  )

  pub stretch_within : (i : ℕ) → i < length ys → s.first + i < length xs
  stretch_within i h = omega (arith, stretch_count, is.there)

  pub stretch_get : (i : ℕ) → i < length ys → slice_get ys i ≡ slice_get xs (s.first + i)
  stretch_get i h =
      ap (λ zs. slice_get zs i) (sym is.is)
      ∙ slice_get-take (drop s.first xs) s.count i (omega (arith, stretch_count))
      ∙ slice_get-drop xs s.first i

-- ---- places below implicit roots

-- a root is found by its number
pub top_found : (store : Stored) (tables : Tables) (number : ℕ) (top : RootTile)
    → IsTop store tables number top → top_in store tables number ≡ Some top
top_found store tables number top t =
    ap (option_and_then (top_of store tables)) t.at
    ∙ ap (option_and_then (λ part. Some (top_by (transform_in tables t.entry.transform) t.entry
    part))) t.says
    ∙ ap Some (sym t.is)

none_kept : {A B : Type 0} (f : A → Option B) (xs : List A) → ((x : A) → f x ≡ None)
    → filter_map f xs ≡ []
none_kept f [] none = refl
none_kept f (x ∷ xs) none = rw (none x) (none_kept f xs none)

-- what is read of the node at a place
pub record IsPlaceTree (docs : Docs) (top : RootTile) (at : Place) (t : Tree) : Type 0 where
  pub name : name_of t ≡ place_name top at
  pub facts : facts_of t ≡ place_facts top at (place_contents docs top at)
  pub contents : addresses_of t ≡ own_of (place_contents docs top at)

module _ (docs : Docs) (below : Below) (top : RootTile) (at : Place) where
  abbrev children : ℕ → List Tree
  children levels =
      flat_map (λ place. option_to_list (implicit_node docs below top levels place))
      (child_places top.root.part at)
      ++ externals below (place_name top at) (place_holder top at) 0
      (external_of (place_contents docs top at))

  tile_here : (levels : ℕ) → presence_at top.root (subtree_at docs) at ≡ presence.Tile
      → implicit_node docs below top (suc levels) at
      ≡ Some (place_tile top at (place_contents docs top at) (children levels))
  tile_here levels e = rw (e, implicit_node) refl

  waiting_here : (levels : ℕ) (key : Key)
      → presence_at top.root (subtree_at docs) at ≡ presence.Waiting key
      → implicit_node docs below top (suc levels) at
      ≡ Some (pending (place_name top at) (place_facts top at []) key)
  waiting_here levels key e = rw (e, implicit_node) refl

  -- while its subtree isn't loaded no contents are known
  no_contents : (key : Key) → presence_at top.root (subtree_at docs) at ≡ presence.Waiting key
      → place_contents docs top at ≡ []
  no_contents key e =
      none_kept (content_at top.root (subtree_at docs) at)
      (range_with_len 0 (length top.root.part.contents))
      (λ which. ap (λ p. of_tile p (content_by top.root at which
      (found_at top.root (subtree_at docs) at))) e)

module _ (store : Stored) (levels : ℕ) (top : RootTile) (at : Place)
    (place : IsPlace top.root.part at) where
  abbrev left : ℕ
  left = levels_left top at - 1

  abbrev by_levels : ℕ → Tree
  by_levels n =
      unwrap_or (implicit_node (docs store) (tilesets (docs store) levels) top n at) no_tree

  some_left : levels_left top at ≡ suc left
  some_left = omega (arith, place.level)

  pub tile_at_place : presence_at top.root (subtree_at (docs store)) at ≡ presence.Tile
      → unwrap_or (node_at store levels top at) no_tree
      ≡ place_tile top at (place_contents (docs store) top at)
      (children (docs store) (tilesets (docs store) levels) top at (levels_left top at - 1))
  tile_at_place e =
      ap by_levels some_left
      ∙ ap (λ o. unwrap_or o no_tree)
      (tile_here (docs store) (tilesets (docs store) levels) top at left e)

  pub waiting_at_place : (key : Key)
      → presence_at top.root (subtree_at (docs store)) at ≡ presence.Waiting key
      → unwrap_or (node_at store levels top at) no_tree
      ≡ pending (place_name top at) (place_facts top at []) key
  waiting_at_place key e =
      ap by_levels some_left
      ∙ ap (λ o. unwrap_or o no_tree)
      (waiting_here (docs store) (tilesets (docs store) levels) top at left key e)

module _ (store : Stored) (tables : Tables) (levels : ℕ) (entry : PlaceEntry) (top : RootTile)
    (p : IsPlaced store tables entry top) where
  -- the node of its implicit root
  pub placed_is : placed_node store tables levels (Some entry)
      ≡ unwrap_or (node_at store levels top entry.at) no_tree
  placed_is = ap (λ o. unwrap_or (option_and_then (λ t. node_at store levels t entry.at) o) no_tree)
      (top_found store tables entry.top top p.is_top)

  pub is_place_tree : IsPlaceTree (docs store) top entry.at
      (placed_node store tables levels (Some entry))
  is_place_tree = by_state entry.state p.state
    where
      by_state : (s : SubtreeState) → IsState store tables top.root entry.at s
          → IsPlaceTree (docs store) top entry.at (placed_node store tables levels (Some entry))
      by_state (Read number) state =
          subst (IsPlaceTree (docs store) top entry.at)
          (sym (placed_is ∙ tile_at_place store levels top entry.at p.place state.present))
          (record { name = refl; facts = refl; contents = refl })
      by_state (Awaited number) state =
          let none = no_contents (docs store) (tilesets (docs store) levels) top entry.at
          state.entry.key state.waits in
          subst (IsPlaceTree (docs store) top entry.at)
          (sym (placed_is
          ∙ waiting_at_place store levels top entry.at p.place state.entry.key state.waits))
          (record {
            name = refl;
            facts = ap (place_facts top entry.at) (sym none);
            contents = ap own_of (sym none);
          })

  -- it waits for nothing
  pub read_key : (subtree : ℕ) → entry.state ≡ Read subtree
      → key_of (placed_node store tables levels (Some entry)) ≡ None
  read_key subtree e =
      let state = subst (IsState store tables top.root entry.at) e p.state in
      ap key_of (placed_is ∙ tile_at_place store levels top entry.at p.place state.present)

  module _ (number : ℕ) (e : entry.state ≡ Awaited number) where
    pub awaited_there : number < length tables.waiting.items
    awaited_there =
        let state = subst (IsState store tables top.root entry.at) e p.state in
        slice_get_within tables.waiting.items number state.entry state.there

    pub awaited_key : (w : Waiting) → slice_get tables.waiting.items number ≡ Some w
        → key_of (placed_node store tables levels (Some entry)) ≡ Some w.key
    awaited_key w read =
        let state = subst (IsState store tables top.root entry.at) e p.state in
        let same : Some state.entry ≡ Some w = sym state.there ∙ read in
        let is : state.entry ≡ w = cc in
        ap key_of
        (placed_is ∙ waiting_at_place store levels top entry.at p.place state.entry.key state.waits)
        ∙ ap (λ (v : Waiting). Some v.key) is

-- ---- nodes

under_facts : (docs : Docs) (below : Below) (base name : List ℕ) (map : Map) (refine : Refine)
    (t : WrittenTile)
    → facts_of (tile_under docs below base name (holder_by map refine t) t)
    ≡ written_facts (record {
      transform = map;
      error = moved_error (row_of t).parts.error map;
      refine = refine;
    }) (row_of t).parts
under_facts docs below base name map refine (written own children) = refl

under_key : (docs : Docs) (below : Below) (base name : List ℕ) (holder : Holder) (t : WrittenTile)
    → key_of (tile_under docs below base name holder t) ≡ None
under_key docs below base name holder (written own children) = refl

under_addresses : (docs : Docs) (below : Below) (base name : List ℕ) (holder : Holder)
    (t : WrittenTile)
    → addresses_of (tile_under docs below base name holder t) ≡ own_of (row_of t).parts.contents
under_addresses docs below base name holder (written own children) = refl

contents_row : (t : WrittenTile) → contents_in (Some t) ≡ (row_of t).parts.contents
contents_row (written own children) = refl

module _ (store : Stored) (list : NodeList) (place : ℕ) (n : TreeNode)
    (sound : IsSoundList store list)
    (at : slice_get list.nodes.items place ≡ Some n) where
  -- the transform is there
  pub transform_there : n.transform < length list.tables.transforms.items
  transform_there = (is_sound store list place n sound at).transform

  abbrev name : List ℕ
  name = name_by (node_trees store list) place n.parent n.number

  source_is : (s : NodeSource) → n.source ≡ s
      → tree_in (node_trees store list) place
      ≡ source_tree store list.tables (name_by (node_trees store list) place n.parent n.number) n s
  source_is s e = tree_is store list place n sound at ∙ ap (source_tree store list.tables name n) e

  module _ (document number : ℕ) (source : n.source ≡ Tile document number) where
    module _ (t : WrittenTile) (found : tile_at store document number ≡ Some t) where
      pub written_is : tree_in (node_trees store list) place
          ≡ tile_under (docs store) (tilesets (docs store) n.levels) (address_in store document)
          (name_by (node_trees store list) place n.parent n.number)
          (holder_by (transform_in list.tables n.transform) n.refine t) t
      written_is =
          source_is (Tile document number) source
          ∙ ap (tile_node (docs store) (tilesets (docs store) n.levels) (address_in store document)
          name (transform_in list.tables n.transform) n.refine) found

    pub tile_key : key_of (tree_in (node_trees store list) place) ≡ None
    tile_key =
        let here = there store list place n sound at document number source in
        let t = here.tree in
        ap key_of (written_is t (is_at store document number here.tiles t here.read here.stands))
        ∙ under_key (docs store) (tilesets (docs store) n.levels) (address_in store document) name
        (holder_by (transform_in list.tables n.transform) n.refine t) t

    module _ (row : Row) (h : HasRow store document number row) where
      pub facts_read : (transform : Map) → transform_in list.tables n.transform ≡ transform
          → written_facts
          (record {
            transform = transform;
            error = moved_error row.parts.error transform;
            refine = n.refine;
          }) row.parts
          ≡ facts_of (tree_in (node_trees store list) place)
      facts_read transform is =
          let made : Map → WrittenParts → Facts =
          λ m o. written_facts (record {
            transform = m;
            error = moved_error o.error m;
            refine = n.refine;
          }) o in
          ap (λ (r : Row). made transform r.parts) h.row_is
          ∙ ap (λ m. made m (row_of h.tree).parts) (sym is)
          ∙ sym (under_facts (docs store) (tilesets (docs store) n.levels)
          (address_in store document) name (transform_in list.tables n.transform) n.refine h.tree)
          ∙ sym (ap facts_of (written_is h.tree h.at))

      pub contents_read : own_of row.parts.contents
          ≡ addresses_of (tree_in (node_trees store list) place)
      contents_read =
          ap (λ (r : Row). own_of r.parts.contents) h.row_is
          ∙ sym (under_addresses (docs store) (tilesets (docs store) n.levels)
          (address_in store document) name
          (holder_by (transform_in list.tables n.transform) n.refine h.tree) h.tree)
          ∙ sym (ap addresses_of (written_is h.tree h.at))

      pub few_read : length (own_of row.parts.contents) < 2 ^ 32
      few_read =
          let few = subst (HasFewContents store) source (is_sound store list place n sound at).few in
          subst (λ (r : Row). length (own_of r.parts.contents) < 2 ^ 32) (sym h.row_is)
          (subst (λ contents. length (own_of contents) < 2 ^ 32) (contents_row h.tree)
          (subst (λ t. length (own_of (contents_in t)) < 2 ^ 32) h.at few))

  module _ (number : ℕ) (source : n.source ≡ Pending number) where
    is_pending : IsPending list.tables number
    is_pending = subst (IsThere store list.tables) source
        (is_sound store list place n sound at).there

    pub waiting_there : number < length list.tables.waiting.items
    waiting_there = slice_get_within list.tables.waiting.items number is_pending.entry is_pending.at

    module _ (w : Waiting) (read : slice_get list.tables.waiting.items number ≡ Some w) where
      pub pending_is : tree_in (node_trees store list) place
          ≡ pending (name_by (node_trees store list) place n.parent n.number)
          (waiting_facts (record {
            transform = transform_in list.tables n.transform;
            error = w.error;
            refine = n.refine;
          })) w.key
      pending_is =
          source_is (Pending number) source
          ∙ ap (pending_node name (transform_in list.tables n.transform) n.refine) read

      pub waiting_read : waiting_facts
          (record {
            transform = transform_in list.tables n.transform;
            error = w.error;
            refine = n.refine;
          })
          ≡ facts_of (tree_in (node_trees store list) place)
      waiting_read = sym (ap facts_of pending_is)

      pub key_read : Some w.key ≡ key_of (tree_in (node_trees store list) place)
      key_read = sym (ap key_of pending_is)

    -- it has no contents
    pub nothing_read : addresses_of (tree_in (node_trees store list) place) ≡ []
    nothing_read = ap addresses_of (pending_is is_pending.entry is_pending.at)

  module _ (number : ℕ) (source : n.source ≡ Implicit number) where
    pub place_there : IsPlaceAt store list.tables number
    place_there = subst (IsThere store list.tables) source
        (is_sound store list place n sound at).there

    -- its name and its facts
    pub place_read : (p : IsPlaceAt store list.tables number)
        → IsPlaceTree (docs store) p.has.top p.entry.at (tree_in (node_trees store list) place)
    place_read p =
        subst (IsPlaceTree (docs store) p.has.top p.entry.at)
        (sym (source_is (Implicit number) source
        ∙ ap (placed_node store list.tables n.levels) p.at))
        (is_place_tree store list.tables n.levels p.entry p.has.top p.has.placed)

    pub entry_there : number < length list.tables.places.items
    entry_there = slice_get_within list.tables.places.items number place_there.entry place_there.at

    -- what is read of its entry
    module _ (entry : PlaceEntry)
        (read : entry ≡ get_or list.tables.places.items number entry) where
      at_entry : slice_get list.tables.places.items number ≡ Some entry
      at_entry = slice_get_read list.tables.places.items _ number entry refl entry_there read

      has_top : HasTop store list.tables entry
      has_top =
          let same : Some place_there.entry ≡ Some entry = sym place_there.at ∙ at_entry in
          let is : place_there.entry ≡ entry = cc in
          subst (HasTop store list.tables) is place_there.has

      its_contents : addresses_of (tree_in (node_trees store list) place)
          ≡ own_of (place_contents (docs store) has_top.top entry.at)
      its_contents = (place_read (record { entry = entry; at = at_entry; has = has_top })).contents

      stretch : IsStretch list.tables.contents.items entry.contents
          (addresses_of (tree_in (node_trees store list) place))
      stretch = subst (IsStretch list.tables.contents.items entry.contents) (sym its_contents)
          has_top.placed.contents

      pub entry_count : entry.contents.count
          ≡ length (addresses_of (tree_in (node_trees store list) place))
      entry_count = stretch_count list.tables.contents.items entry.contents
          (addresses_of (tree_in (node_trees store list) place)) stretch

      module _ (i : ℕ) (h : i < length (addresses_of (tree_in (node_trees store list) place))) where
        pub content_there : entry.contents.first + i < length list.tables.contents.items
        content_there = stretch_within list.tables.contents.items entry.contents
            (addresses_of (tree_in (node_trees store list) place)) stretch i h

        pub content_read : (address : List ℕ)
            → address ≡ get_or list.tables.contents.items (entry.contents.first + i) address
            → slice_get (addresses_of (tree_in (node_trees store list) place)) i ≡ Some address
        content_read address e =
            stretch_get list.tables.contents.items entry.contents
            (addresses_of (tree_in (node_trees store list) place)) stretch i h
            ∙ slice_get_read list.tables.contents.items _ (entry.contents.first + i) address refl
            content_there e

      pub its_tree : tree_in (node_trees store list) place
          ≡ placed_node store list.tables n.levels (Some entry)
      its_tree = source_is (Implicit number) source
          ∙ ap (placed_node store list.tables n.levels) at_entry

      pub no_key : (subtree : ℕ) → entry.state ≡ Read subtree
          → None ≡ key_of (tree_in (node_trees store list) place)
      no_key subtree e =
          sym (ap key_of its_tree
          ∙ read_key store list.tables n.levels entry has_top.top has_top.placed subtree e)

      module _ (waiting : ℕ) (e : entry.state ≡ Awaited waiting) where
        pub key_there : waiting < length list.tables.waiting.items
        key_there =
            awaited_there store list.tables n.levels entry has_top.top has_top.placed waiting e

        pub place_key : (w : Waiting) → w ≡ get_or list.tables.waiting.items waiting w
            → Some w.key ≡ key_of (tree_in (node_trees store list) place)
        place_key w is =
            sym (ap key_of its_tree
            ∙ awaited_key store list.tables n.levels entry has_top.top has_top.placed waiting e w
            (slice_get_read list.tables.waiting.items _ waiting w refl key_there is))
