-- Where the bits of implicit tiles are.
use Rattle.std.proofs.Common.{ℕ, ◌≡◌, if◌then◌else◌, Option, Some, None, option_map, List, [], get_or, refl, sym, ◌∙◌, ap, subst}
use Rattle.std.specs.List.{slice_get}
use Rattle.std.specs.Option.{option_and_then, option_map_or}
use Rattle.std.proofs.lemmas.Option.{slice_get_read, slice_get_within}
use Rattle.tile_types.specs.declared.key.Key.{Key}
use Rattle.tile_types.specs.declared.key.Kind.{Kind}
use Rattle.tile_types.specs.declared.key.Kind.TheVariants as kind
use Rattle.tile_types.specs.Keys.{same_kind}
use Rattle.tileset_schema.specs.Preorder.{Row}
use Rattle.tileset_schema.specs.Tiles.{WrittenTile, written}
use Rattle.subtree_binary.specs.Found.{here}
use Rattle.subtree_binary.specs.Subtrees.{SubtreeParts}
use Rattle.implicit_walk.specs.Places.{number_in_subtree}
use Rattle.implicit_walk.specs.Presences.{Known, known_at}
use Rattle.implicit_walk.specs.Roots.{subtree_key}
use Rattle.doc_store.specs.Docs.{Docs, Loaded, subtree_at, tileset_key}
use Rattle.doc_store.specs.States.{rows_in, rows_of}
use Rattle.doc_store.specs.Store.{Stored, docs}
use Rattle.expanded_tree.specs.Tree.{Origin}
use Rattle.tree_expansion.specs.Expansion.{Below, Holder, RootTile, tilesets}
use Rattle.tree_nodes.specs.declared.node.NodeSource.TheVariants.{Tile, Pending, Implicit}
use Rattle.tree_nodes.specs.declared.node.TreeNode.{TreeNode}
use Rattle.tree_nodes.specs.declared.node_list.NodeList.{NodeList}
use Rattle.tree_nodes.specs.declared.place_entry.PlaceEntry.{PlaceEntry}
use Rattle.tree_nodes.specs.declared.place_entry.SubtreeState.TheVariants.{Read, Awaited}
use Rattle.tree_nodes.specs.declared.table_place.TablePlace.{TablePlace}
use Rattle.tree_nodes.specs.declared.tables.Tables.{Tables}
use Rattle.tree_nodes.specs.Nodes.{IsPending, IsSoundList, IsThere, node_trees, placed_node, tile_under}
use Rattle.tree_nodes.specs.Places.{IsPlaceAt, IsState, IsTop}
use Rattle.tree_nodes.specs.TablePlaces.{TellsPlace, key_in, origin_of}
use Rattle.tree_nodes.specs.TreeIn.{tree_in}
use Rattle.tree_nodes.specs.Tiles.{address_in}
use Rattle.tree_nodes.proofs.PlacesRead.{its_tree, pending_is, place_there, placed_is, tile_at_place, waiting_at_place, written_is}
use Rattle.tree_nodes.proofs.Rows.{is_at}
use Rattle.tree_nodes.proofs.TileChildren.{is_sound, there}

-- a document that is read as tiles is a tileset
kind_read : (k : Kind) (address bytes : List ℕ) (rows : List Row)
    → (if same_kind k kind.Tileset then rows_in address bytes else None) ≡ Some rows
    → k ≡ kind.Tileset
kind_read kind.Content address bytes rows e = cc
kind_read kind.Tileset address bytes rows e = refl
kind_read (kind.Subtree octree levels contents) address bytes rows e = cc

key_of_rows : (o : Option Loaded) (rows : List Row) → option_and_then rows_of o ≡ Some rows
    → (address : List ℕ) → option_map_or (λ l. l.key.address) o [] ≡ address
    → option_map (λ l. l.key) o ≡ Some (tileset_key address)
key_of_rows None rows e address is = cc
key_of_rows (Some l) rows e address is =
    let tileset : l.key.kind ≡ kind.Tileset = kind_read l.key.kind l.key.address l.bytes rows e in
    ap (λ k. Some (record { kind = k; address = l.key.address })) tileset
    ∙ ap (λ a. Some (tileset_key a)) is

-- the key under which a subtree is found
record IsFoundKey (known : Known) (key : Option Key) (parts : SubtreeParts) : Type 0 where
  own : Key
  is : key ≡ Some own
  found : known own ≡ here parts

found_key : (known : Known) (key : Option Key) (parts : SubtreeParts)
    → known_at known key ≡ here parts → IsFoundKey known key parts
found_key known None parts e = cc
found_key known (Some own) parts e = record { own = own; is = refl; found = e }

none_told : (store : Stored) (o : Option Origin) → o ≡ None → TellsPlace store o None
none_told store o e = subst (λ o. TellsPlace store o None) (sym e) tt

-- an entry of a node
module _ (store : Stored) (tables : Tables) (levels number : ℕ)
    (p : IsPlaceAt store tables number) where
  abbrev top : RootTile
  top = p.has.top

  abbrev its : IsTop store tables p.entry.top p.has.top
  its = p.has.placed.is_top

  abbrev place : ℕ → TablePlace
  place subtree = record {
    document = its.entry.document;
    subtree = subtree;
    index = number_in_subtree top.root.part p.entry.at;
  }

  document_is : key_in store its.entry.document ≡ Some (tileset_key top.root.base)
  document_is =
      key_of_rows (slice_get store.loaded its.entry.document) its.tile.tiles its.tile.read
      top.root.base (sym its.base ∙ sym (ap (λ (t : RootTile). t.root.base) its.is))

  pub place_told : (subtree : ℕ) → p.entry.state ≡ Read subtree
      → TellsPlace store (origin_of (placed_node store tables levels (Some p.entry)))
      (Some (place subtree))
  place_told subtree e =
      let state = subst (IsState store tables top.root p.entry.at) e p.has.placed.state in
      let key = found_key (subtree_at (docs store)) (subtree_key top.root p.entry.at)
      state.subtree.parts state.subtree.found in
      subst (λ o. TellsPlace store o (Some (place subtree)))
      (sym (ap origin_of
      (placed_is store tables levels p.entry top p.has.placed
      ∙ tile_at_place store levels top p.entry.at p.has.placed.place state.present)
      ∙ ap (option_map (λ key. record {
        document = top.root.base;
        subtree = key;
        index = number_in_subtree top.root.part p.entry.at;
      })) key.is))
      (record {
        document = document_is;
        subtree = record {
          parts = state.subtree.parts;
          found = key.found;
          read = state.subtree.read;
        };
        index = refl;
      })

  pub awaited_told : (key_number : ℕ) → p.entry.state ≡ Awaited key_number
      → TellsPlace store (origin_of (placed_node store tables levels (Some p.entry))) None
  awaited_told key_number e =
      let state = subst (IsState store tables top.root p.entry.at) e p.has.placed.state in
      none_told store _ (ap origin_of
      (placed_is store tables levels p.entry top p.has.placed
      ∙ waiting_at_place store levels top p.entry.at p.has.placed.place state.entry.key
      state.waits))

-- a node
under_origin : (docs : Docs) (below : Below) (base name : List ℕ) (holder : Holder)
    (t : WrittenTile) → origin_of (tile_under docs below base name holder t) ≡ None
under_origin docs below base name holder (written own children) = refl

module _ (store : Stored) (list : NodeList) (at : ℕ) (n : TreeNode) (sound : IsSoundList store list)
    (read : slice_get list.nodes.items at ≡ Some n) where
  abbrev tells : Option TablePlace → Type 0
  tells place = TellsPlace store (origin_of (tree_in (node_trees store list) at)) place

  pub tile_told : (document number : ℕ) → n.source ≡ Tile document number → tells None
  tile_told document number source =
      let here = there store list at n sound read document number source in
      none_told store _ (ap origin_of (written_is store list at n sound read document number source
      here.tree (is_at store document number here.tiles here.tree here.read here.stands))
      ∙ under_origin (docs store) (tilesets (docs store) n.levels) (address_in store document) _ _
      here.tree)

  pub pending_told : (number : ℕ) → n.source ≡ Pending number → tells None
  pending_told number source =
      let is : IsPending list.tables number =
      subst (IsThere store list.tables) source (is_sound store list at n sound read).there in
      none_told store _
      (ap origin_of (pending_is store list at n sound read number source is.entry is.at))

  module _ (number : ℕ) (source : n.source ≡ Implicit number) (entry : PlaceEntry)
      (of_entry : entry ≡ get_or list.tables.places.items number entry) where
    abbrev its_place : IsPlaceAt store list.tables number
    its_place = place_there store list at n sound read number source

    its_entry : its_place.entry ≡ entry
    its_entry =
        let there = slice_get_within list.tables.places.items number its_place.entry its_place.at in
        let found = slice_get_read list.tables.places.items _ number entry refl there of_entry in
        let same : Some its_place.entry ≡ Some entry = sym its_place.at ∙ found in
        cc

    its_node : placed_node store list.tables n.levels (Some its_place.entry)
        ≡ tree_in (node_trees store list) at
    its_node =
        ap (λ e. placed_node store list.tables n.levels (Some e)) its_entry
        ∙ sym (its_tree store list at n sound read number source entry of_entry)

    pub read_told : (subtree : ℕ) → entry.state ≡ Read subtree → (made : TablePlace)
        → ((p : IsPlaceAt store list.tables number) → made ≡ record {
          document = p.has.placed.is_top.entry.document;
          subtree = subtree;
          index = number_in_subtree p.has.top.root.part p.entry.at;
        }) → tells (Some made)
    read_told subtree e made is =
        subst (λ m. tells (Some m)) (sym (is its_place))
        (subst (λ t. TellsPlace store (origin_of t)
        (Some (place store list.tables n.levels number its_place subtree))) its_node
        (place_told store list.tables n.levels number its_place subtree
        (ap (λ (x : PlaceEntry). x.state) its_entry ∙ e)))

    pub waits_told : (key_number : ℕ) → entry.state ≡ Awaited key_number → tells None
    waits_told key_number e =
        subst (λ t. TellsPlace store (origin_of t) None) its_node
        (awaited_told store list.tables n.levels number its_place key_number
        (ap (λ (x : PlaceEntry). x.state) its_entry ∙ e))
