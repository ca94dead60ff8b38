-- What further nodes add.
use Rattle.std.proofs.Common.{ℕ, ◌⊎◌, inl, inr, ◌≡◌, ◌+◌, ◌<◌, ◌≤◌, ◌^◌, Option, Some, None, option_to_list, List, [], ◌∷◌, ◌++◌, length, refl, sym, ◌∙◌, ap, subst, arith, append_assoc, length-append, append-nil}
use Rattle.std.specs.Prelude.{not, unwrap_or}
use Rattle.std.specs.List.{slice_get}
use Rattle.std.proofs.lemmas.List.Sums.{count_by-le-length, length-filter}
use Rattle.std.specs.Option.{option_and_then}
use Rattle.fixed_geometry.specs.Maps.{after, identity}
use Rattle.volumes.specs.Limits.{error_limit}
use Rattle.tile_uri.specs.Addresses.{is_external}
use Rattle.tileset_schema.specs.Parts.{WrittenParts}
use Rattle.tileset_schema.specs.Implicit.{ImplicitParts}
use Rattle.tileset_schema.specs.Tiles.{WrittenTile, WrittenTiles, written}
use Rattle.implicit_walk.specs.declared.place.Place.{Place}
use Rattle.doc_store.specs.Docs.{Docs}
use Rattle.doc_store.specs.Store.{Stored, docs}
use Rattle.expanded_tree.specs.Tree.{Tree, pending}
use Rattle.tree_expansion.specs.Expansion.{Holder, Below, RootTile, holder_of, implicit_tree, own_of, root_tile, waiting_facts, written_tree, tilesets}
use Rattle.tree_nodes.specs.declared.node.Handed.{Handed}
use Rattle.tree_nodes.specs.declared.node.NodeSource.TheVariants.{Tile}
use Rattle.tree_nodes.specs.declared.node.TreeNode.{TreeNode}
use Rattle.tree_nodes.specs.declared.node.Waiting.{Waiting}
use Rattle.tree_nodes.specs.declared.node_list.NodeList.{NodeList}
use Rattle.tree_nodes.specs.declared.place_entry.PlaceEntry.{PlaceEntry}
use Rattle.tree_nodes.specs.declared.tables.Tables.{Tables}
use Rattle.tree_nodes.specs.TreeIn.{no_tree, tree_in}
use Rattle.tree_nodes.specs.Tiles.{IsTileAt, address_in, contents_in, part_of, tile_at, row_of}
use Rattle.tree_nodes.specs.Places.{IsTop, map_in, place_tree}
use Rattle.tree_nodes.specs.Entries.{IsEntry, state_waits}
use Rattle.tree_nodes.specs.Nodes.{HasFewContents, IsSound, IsSoundList, IsThere, holder_by, name_by, node_tree, node_trees, pending_node, placed_node, source_tree, tile_node, tile_under, trees_behind}
use Rattle.tree_nodes.specs.Fronts.{Continues}
use Rattle.tree_nodes.specs.Growth.{AddsPending, AddsPlace, AddsTile, CanTake, Grows, IsWithin, handed_holder, handed_name, written_at}
use Rattle.tree_nodes.specs.Waits.{top_waits}
use Rattle.tree_nodes.proofs.Waits.{tops_wait-append}
use Rattle.tree_nodes.proofs.Elements.{one_more, slice_get-last}
use Rattle.tree_nodes.proofs.Fronts.{Continues-same, Continues-then, front_get, IsFront-length, IsFront-more, IsFront-same, IsFront-then, more_places, more_transforms, more_waiting}
use Rattle.tree_nodes.proofs.Maps.{transform_stays}
use Rattle.tree_nodes.proofs.Places.{placed_stays, tree_stays}
use Rattle.tree_nodes.proofs.NodeTrees.{length-trees_behind, one_tree, there_stays, tree_left, trees_stay}

pub length-node_trees : (store : Stored) (list : NodeList)
    → length (node_trees store list) ≡ length list.nodes.items
length-node_trees store list =
    omega (
      arith,
      length-trees_behind store list.tables []
          list.nodes.items,
    )

pub grows_none : (store : Stored) (limit : Option ℕ) (list : NodeList) → IsSoundList store list
    → Grows store limit list list []
grows_none store limit list sound = record {
  nodes = IsFront-same list.nodes.items;
  trees = sym (append-nil (node_trees store list));
  sound = sound;
  within = λ h. h;
  tables = Continues-same list.tables;
  waits = omega arith;
}

pub grows_then : (store : Stored) (limit : Option ℕ) (a b c : NodeList) (ts us : List Tree)
    → Grows store limit a b ts → Grows store limit b c us → Grows store limit a c (ts ++ us)
grows_then store limit a b c ts us f g = record {
  nodes = IsFront-then _ _ _ f.nodes g.nodes;
  trees = g.trees ∙ ap (λ xs. xs ++ us) f.trees ∙ append_assoc (node_trees store a) ts us;
  sound = g.sound;
  within = λ h. g.within (f.within h);
  tables = Continues-then _ _ _ f.tables g.tables;
  waits = omega (arith, f.waits, g.waits, tops_wait-append ts us);
}

-- how many nodes there are then
pub grows_length : (store : Stored) (limit : Option ℕ) (a b : NodeList) (ts : List Tree)
    → Grows store limit a b ts → length b.nodes.items ≡ length a.nodes.items + length ts
grows_length store limit a b ts g =
    omega (
      arith,
      length-node_trees store a,
      length-node_trees store b,
      ap length g.trees,
      length-append (node_trees store a) ts,
    )

-- a node's tree stays
pub grows_left : (store : Stored) (limit : Option ℕ) (a b : NodeList) (ts : List Tree)
    → Grows store limit a b ts → (i : ℕ) → i < length a.nodes.items
    → tree_in (node_trees store b) i ≡ tree_in (node_trees store a) i
grows_left store limit a b ts g i h =
    ap (λ us. tree_in us i) g.trees
    ∙ tree_left (node_trees store a) ts i (omega (arith, h, length-node_trees store a))

pub grows_map : (store : Stored) (limit : Option ℕ) (a b : NodeList) (ts : List Tree)
    → Grows store limit a b ts → (i : ℕ) → i < length a.tables.transforms.items
    → map_in b.tables.transforms.items i ≡ map_in a.tables.transforms.items i
grows_map store limit a b ts g i h = transform_stays a.tables b.tables g.tables i h

-- what the parent hands down can still be taken
pub can_still : (store : Stored) (limit : Option ℕ) (a b : NodeList) (ts : List Tree)
    (handed : Handed) → Grows store limit a b ts → CanTake a handed → 0 < length a.nodes.items
    → CanTake b handed
can_still store limit a b ts handed g can some = record {
  parent = λ h. omega (arith, can.parent some, grows_length store limit a b ts g);
  transform =
      omega (
        arith,
        can.transform,
        IsFront-length a.tables.transforms.items b.tables.transforms.items
            g.tables.transforms,
      );
}

-- ---- one node

pub more_sound : (store : Stored) (old new : Tables) (place : ℕ) (n : TreeNode)
    → Continues old new → IsSound store old place n → IsSound store new place n
more_sound store old new place n c s = record {
  below = s.below;
  transform =
      omega (
        arith,
        s.transform,
        IsFront-length old.transforms.items new.transforms.items
            c.transforms,
      );
  there = there_stays store old new c n.source s.there;
  few = s.few;
}

pub grows_one : (store : Stored) (limit : Option ℕ) (old new : NodeList) (n : TreeNode) (t : Tree)
    → IsSoundList store old
    → new.nodes.items ≡ old.nodes.items ++ n ∷ []
    → Continues old.tables new.tables
    → IsWithin limit (length old.nodes.items + 1)
    → length new.tables.waiting.items ≡ length old.tables.waiting.items + top_waits t
    → IsSound store new.tables (length old.nodes.items) n
    → node_tree store new.tables (node_trees store old) (length old.nodes.items) n ≡ t
    → Grows store limit old new (t ∷ [])
grows_one store limit old new n t sound nodes more within count here is = record {
  nodes = IsFront-more old.nodes.items new.nodes.items (n ∷ []) nodes;
  trees = ap (trees_behind store new.tables []) nodes
      ∙ one_tree store new.tables old.nodes.items n
      ∙ ap (λ (ts : List Tree). ts ++ node_tree store new.tables ts (length ts) n ∷ []) stay
      ∙ ap (λ k. node_trees store old ++ node_tree store new.tables (node_trees store old) k n ∷ [])
      (length-node_trees store old)
      ∙ ap (λ u. node_trees store old ++ u ∷ []) is;
  sound = record {
    nodes = λ i m e. by_place i m
        (one_more old.nodes.items n i m (ap (λ ns. slice_get ns i) (sym nodes) ∙ e));
    first = front_get old.tables.transforms.items new.tables.transforms.items more.transforms 0
        identity sound.first;
  };
  within = λ h. subst (IsWithin limit)
      (sym (ap length nodes ∙ length-append old.nodes.items (n ∷ []))) within;
  tables = more;
  waits = omega (arith, count);
}
  where
    stay : trees_behind store new.tables [] old.nodes.items ≡ node_trees store old
    stay = trees_stay store old.tables new.tables more old.nodes.items sound.nodes

    by_place : (i : ℕ) (m : TreeNode)
        → ((slice_get old.nodes.items i ≡ Some m) ⊎ ((i ≡ length old.nodes.items) × (m ≡ n)))
        → IsSound store new.tables i m
    by_place i m (inl e) =
        more_sound store old.tables new.tables i m more (sound.nodes i m e)
    by_place i m (inr e) =
        subst (λ k. IsSound store new.tables k m) (sym e.0)
        (subst (IsSound store new.tables (length old.nodes.items)) (sym e.1) here)

-- ---- a node for a tile

abbrev written_by : Docs → Below → List ℕ → List ℕ → Holder → WrittenParts → WrittenTiles
    → Option ImplicitParts → Option Tree
written_by docs below base name holder own children implicit =
    elim implicit [
      | Some part ↦ implicit_tree docs below (root_tile base name holder own part)
      | None ↦ Some (tile_under docs below base name holder (written own children))
    ]

written_is : (docs : Docs) (below : Below) (base name : List ℕ) (above : Holder) (t : WrittenTile)
    → part_of t ≡ None
    → written_tree docs below base name above t
    ≡ Some (tile_under docs below base name
    (holder_by (after above.transform (row_of t).parts.transform)
    (unwrap_or (row_of t).parts.refine above.refine) t) t)
written_is docs below base name above (written own children) e =
    ap (written_by docs below base name (holder_of above own) own children) e

-- a tile waits for nothing
top_under : (docs : Docs) (below : Below) (base name : List ℕ) (holder : Holder) (t : WrittenTile)
    → 0 ≡ top_waits (tile_under docs below base name holder t)
top_under docs below base name holder (written own children) = refl

-- its own contents are no more than all of them
few_own : (t : WrittenTile) → length (row_of t).parts.contents < 2 ^ 32
    → length (own_of (contents_in (Some t))) < 2 ^ 32
few_own (written own children) h = omega (
  arith,
  length-filter (λ x. not (is_external x)) own.contents,
  count_by-le-length (λ x. not (is_external x)) own.contents,
  h,
)

-- a parent above the node
sound_below : (handed : Handed) (list : NodeList) (n : TreeNode) → CanTake list handed
    → n.parent ≡ handed.parent → 0 < length list.nodes.items → n.parent < length list.nodes.items
sound_below handed list n can e some = omega (arith, e, can.parent some)

pub grows_tile : (store : Stored) (limit : Option ℕ) (old new : NodeList) (handed : Handed)
    (document number : ℕ) (own : WrittenParts) (t : WrittenTile)
    → IsSoundList store old → CanTake old handed
    → IsTileAt store document number → tile_at store document number ≡ Some t
    → own ≡ (row_of t).parts → part_of t ≡ None → length own.contents < 2 ^ 32
    → AddsTile handed (Tile document number) own old new
    → IsWithin limit (length old.nodes.items + 1)
    → Grows store limit old new (option_to_list (written_at store old handed document number))
grows_tile store limit old new handed document number own t sound can there at own_is plain
    few adds within =
    let n = adds.node in
    let name = handed_name store old handed in
    let below = tilesets (docs store) handed.levels in
    let base = address_in store document in
    let above = handed_holder old handed 0 in
    let computed = after above.transform (row_of t).parts.transform in
    let refined = unwrap_or (row_of t).parts.refine above.refine in
    let tree = tile_under (docs store) below base name (holder_by computed refined t) t in
    let computed_is : map_in new.tables.transforms.items n.transform ≡ computed =
    adds.transform.transform
    ∙ ap (λ (o : WrittenParts). after above.transform o.transform) own_is in
    let refined_is : n.refine ≡ refined =
    adds.refine ∙ ap (λ (o : WrittenParts). unwrap_or o.refine handed.refine) own_is in
    let name_is : name_by (node_trees store old) (length old.nodes.items) n.parent n.number ≡ name =
    ap (λ p. name_by (node_trees store old) (length old.nodes.items) p n.number)
    adds.takes_over.parent
    ∙ ap (name_by (node_trees store old) (length old.nodes.items) handed.parent)
    adds.takes_over.number in
    let is : node_tree store new.tables (node_trees store old) (length old.nodes.items) n ≡ tree =
    ap (source_tree store new.tables
    (name_by (node_trees store old) (length old.nodes.items) n.parent n.number) n)
    adds.source_is
    ∙ ap (λ m. tile_node (docs store) (tilesets (docs store) n.levels) base m
    (map_in new.tables.transforms.items n.transform) n.refine (tile_at store document number))
    name_is
    ∙ ap (λ l. tile_node (docs store) (tilesets (docs store) l) base name
    (map_in new.tables.transforms.items n.transform) n.refine (tile_at store document number))
    adds.takes_over.levels
    ∙ ap (λ m. tile_node (docs store) below base name m n.refine (tile_at store document number))
    computed_is
    ∙ ap (λ r. tile_node (docs store) below base name computed r (tile_at store document number))
    refined_is
    ∙ ap (tile_node (docs store) below base name computed refined) at in
    let written_is_some : written_at store old handed document number ≡ Some tree =
    ap (option_and_then (written_tree (docs store) below base name above)) at
    ∙ written_is (docs store) below base name above t plain in
    subst (λ o. Grows store limit old new (option_to_list o)) (sym written_is_some)
    (grows_one store limit old new n tree sound adds.nodes
    (more_transforms old.tables new.tables adds.tables adds.transform.front) within
    (omega (
      arith,
      ap (λ (tables : Tables). length tables.waiting.items) adds.tables,
      top_under (docs store) below base name (holder_by computed refined t) t,
    ))
    (record {
      below = sound_below handed old n can adds.takes_over.parent;
      transform = adds.transform.there;
      there = subst (IsThere store new.tables) (sym adds.source_is) there;
      few = subst (HasFewContents store) (sym adds.source_is)
          (subst (λ o. length (own_of (contents_in o)) < 2 ^ 32) (sym at)
          (few_own t (subst (λ (o : WrittenParts). length o.contents < 2 ^ 32) own_is few)));
    }) is)

-- a node for a tileset that isn't loaded
pub grows_pending : (store : Stored) (limit : Option ℕ) (old new : NodeList) (handed : Handed)
    (w : Waiting)
    → IsSoundList store old → CanTake old handed
    → AddsPending handed w old new → w.error ≤ error_limit
    → IsWithin limit (length old.nodes.items + 1)
    → Grows store limit old new
    (pending (handed_name store old handed) (waiting_facts (handed_holder old handed w.error))
    w.key ∷ [])
grows_pending store limit old new handed w sound can adds small within =
    let n = adds.node in
    let name = handed_name store old handed in
    let map = map_in old.tables.transforms.items handed.transform in
    let name_is : name_by (node_trees store old) (length old.nodes.items) n.parent n.number ≡ name =
    ap (λ p. name_by (node_trees store old) (length old.nodes.items) p n.number)
    adds.takes_over.parent
    ∙ ap (name_by (node_trees store old) (length old.nodes.items) handed.parent)
    adds.takes_over.number in
    let same_maps : new.tables.transforms.items ≡ old.tables.transforms.items =
    ap (λ (tables : Tables). tables.transforms.items) adds.tables in
    let map_is : map_in new.tables.transforms.items n.transform ≡ map =
    ap (λ ms. map_in ms n.transform) same_maps ∙ ap (map_in old.tables.transforms.items)
    adds.transform in
    let found : slice_get new.tables.waiting.items (length old.tables.waiting.items) ≡ Some w =
    ap (λ ws. slice_get ws (length old.tables.waiting.items)) adds.waiting
    ∙ slice_get-last old.tables.waiting.items w in
    let is : node_tree store new.tables (node_trees store old) (length old.nodes.items) n
    ≡ pending name (waiting_facts (handed_holder old handed w.error)) w.key =
    ap (source_tree store new.tables
    (name_by (node_trees store old) (length old.nodes.items) n.parent n.number) n) adds.source
    ∙ ap (λ m. pending_node m (map_in new.tables.transforms.items n.transform) n.refine
    (slice_get new.tables.waiting.items (length old.tables.waiting.items))) name_is
    ∙ ap (λ m. pending_node name m n.refine
    (slice_get new.tables.waiting.items (length old.tables.waiting.items))) map_is
    ∙ ap (λ r. pending_node name map r
    (slice_get new.tables.waiting.items (length old.tables.waiting.items))) adds.refine
    ∙ ap (pending_node name map handed.refine) found in
    grows_one store limit old new n (pending name (waiting_facts (handed_holder old handed w.error))
    w.key) sound adds.nodes (more_waiting old.tables new.tables adds.tables
    (IsFront-more old.tables.waiting.items new.tables.waiting.items (w ∷ []) adds.waiting))
    within
    (omega (arith, ap length adds.waiting, length-append old.tables.waiting.items (w ∷ [])))
    (record {
      below = sound_below handed old n can adds.takes_over.parent;
      transform = omega (arith, can.transform, ap length same_maps, adds.transform);
      there = subst (IsThere store new.tables) (sym adds.source)
          (record { entry = w; at = found; error = small });
      few = subst (HasFewContents store) (sym adds.source) tt;
    }) is

-- ---- a node for a place

-- the tables have grown by an entry of a place, and then its node is added
pub grows_place : (store : Stored) (limit : Option ℕ) (old mid new : NodeList) (handed : Handed)
    (number : ℕ) (at : Place) (top : RootTile) (entry : PlaceEntry) (t : Tree)
    → IsSoundList store old → CanTake old handed
    → mid.nodes.items ≡ old.nodes.items
    → IsTop store old.tables number top
    → IsEntry store old.tables mid.tables number at entry
    → AddsPlace handed entry mid new → IsWithin limit (length mid.nodes.items + 1)
    → place_tree store old.tables handed.levels number at ≡ Some t
    → top_waits t ≡ state_waits entry.state
    → Grows store limit old new (t ∷ [])
grows_place store limit old mid new handed number at top entry t sound can nodes is_top made
    adds within tree_is waits =
    let n = adds.node in
    let kept = more_places mid.tables new.tables adds.tables
    (IsFront-more mid.tables.places.items new.tables.places.items (entry ∷ []) adds.places) in
    let more = Continues-then old.tables mid.tables new.tables made.tables kept in
    let found : slice_get new.tables.places.items (length mid.tables.places.items) ≡ Some entry =
    ap (λ ps. slice_get ps (length mid.tables.places.items)) adds.places
    ∙ slice_get-last mid.tables.places.items entry in
    let is : node_tree store new.tables (node_trees store old) (length old.nodes.items) n ≡ t =
    ap (source_tree store new.tables
    (name_by (node_trees store old) (length old.nodes.items) n.parent n.number) n) adds.source
    ∙ ap (placed_node store new.tables n.levels) found
    ∙ ap (λ l. unwrap_or (place_tree store new.tables l entry.top entry.at) no_tree)
    adds.takes_over.levels
    ∙ ap (λ k. unwrap_or (place_tree store new.tables handed.levels k entry.at) no_tree)
    made.number_is
    ∙ ap (λ p. unwrap_or (place_tree store new.tables handed.levels number p) no_tree) made.place
    ∙ ap (λ o. unwrap_or o no_tree)
    (tree_stays store old.tables new.tables more handed.levels number top at is_top ∙ tree_is) in
    grows_one store limit old new n t sound
    (adds.nodes ∙ ap (λ ns. ns ++ n ∷ []) nodes) more
    (subst (λ (ns : List TreeNode). IsWithin limit (length ns + 1)) nodes within)
    (omega (
      arith,
      ap (λ (tables : Tables). length tables.waiting.items) adds.tables,
      made.waits,
      waits,
    ))
    (record {
      below = sound_below handed old n can adds.takes_over.parent;
      transform =
          omega (
            arith,
            can.transform,
            adds.transform,
            IsFront-length old.tables.transforms.items new.tables.transforms.items
                more.transforms,
          );
      there = subst (IsThere store new.tables) (sym adds.source) (record {
        entry = entry;
        at = found;
        has = record {
          top = made.has.top;
          placed = placed_stays store mid.tables new.tables kept entry made.has.top
              made.has.placed;
        };
      });
      few = subst (HasFewContents store) (sym adds.source) tt;
    }) is
