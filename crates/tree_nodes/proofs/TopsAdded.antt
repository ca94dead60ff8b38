-- Implicit roots that are added.
use Rattle.std.specs.Prelude.{◌≢◌, option_map, unwrap_or}
use Rattle.std.proofs.Common.{ℕ, ◌≡◌, ◌+◌, ◌-◌, ◌<◌, ◌≤◌, ◌^◌, Bool, true, false, Option, Some, None, option_to_list, List, [], ◌∷◌, ◌++◌, length, refl, sym, ◌∙◌, ap, subst, arith}
use Rattle.std.specs.List.{slice_get}
use Rattle.std.specs.Option.{is_some, option_and_then, ForSome}
use Rattle.fixed_geometry.specs.Maps.{Map, after, identity}
use Rattle.volumes.specs.declared.volume.Volume.{Volume}
use Rattle.volumes.specs.declared.volume.Volume.TheVariants.{Oriented, Ball}
use Rattle.volumes.specs.Limits.{IsBox, IsBoxInRange, IsInRange, error_limit}
use Rattle.volumes.specs.Moves.{moved, moved_error}
use Rattle.tile_types.specs.declared.refine.Refine.{Refine}
use Rattle.tileset_schema.specs.Implicit.{HasLevels, ImplicitParts}
use Rattle.tileset_schema.specs.Parts.{WrittenParts}
use Rattle.tileset_schema.specs.Preorder.{Row}
use Rattle.tileset_schema.specs.Tiles.{WrittenTile, WrittenTiles, written}
use Rattle.implicit_walk.specs.declared.place.Place.{Place}
use Rattle.implicit_walk.specs.Places.{IsPlace, count_along_z, root_place}
use Rattle.implicit_walk.specs.Presences.{presence}
use Rattle.implicit_walk.specs.Roots.{IsRoot, RootParts}
use Rattle.doc_store.specs.Docs.{Docs, subtree_at}
use Rattle.doc_store.specs.Store.{Stored, docs}
use Rattle.expanded_tree.specs.Tree.{Tree}
use Rattle.tree_expansion.specs.Expansion.{Below, Holder, RootTile, holder_of, implicit_node, implicit_tree, root_tile, tilesets, written_tree}
use Rattle.tree_nodes.specs.declared.error.ListError.{ListError}
use Rattle.tree_nodes.specs.declared.found.FoundTile.{FoundTile}
use Rattle.tree_nodes.specs.declared.node.Handed.{Handed}
use Rattle.tree_nodes.specs.declared.node.NodeSource.TheVariants.{Tile}
use Rattle.tree_nodes.specs.declared.node.TreeNode.{TreeNode}
use Rattle.tree_nodes.specs.declared.node_list.NodeList.{NodeList}
use Rattle.tree_nodes.specs.declared.tables.Tables.{Tables}
use Rattle.tree_nodes.specs.declared.top.Top.{Top}
use Rattle.tree_nodes.specs.Fronts.{IsFront}
use Rattle.tree_nodes.specs.Growth.{AddsTile, AddsTop, CanTake, Grows, IsBelow, IsWithin, Refuses, handed_holder, handed_name, handed_top, written_at}
use Rattle.tree_nodes.specs.Nodes.{IsSound, IsSoundList, node_trees, tile_under, trees_behind}
use Rattle.tree_nodes.specs.Places.{IsFoundAt, IsFoundTile, IsTop, map_in, place_tree, top_by, top_in}
use Rattle.tree_nodes.specs.Tiles.{HasRow, IsTileAt, address_in, part_at, part_of, row_of}
use Rattle.tree_nodes.proofs.Elements.{slice_get-last}
use Rattle.tree_nodes.proofs.Fronts.{Continues-then, front_get, IsFront-length, IsFront-more, IsFront-same}
use Rattle.tree_nodes.proofs.Growing.{grows_tile}
use Rattle.tree_nodes.proofs.NodeTrees.{there_stays, trees_stay}
use Rattle.tree_nodes.proofs.Places.{told_root, tree_is}

-- a moved box is a box
still_box : (v : Volume) (map : Map) → IsBox v → IsBox (moved v map)
still_box (Oriented centre axes) map b = b
still_box (Ball centre radius) map b = b

part_is : (t : WrittenTile) → (row_of t).parts.implicit ≡ part_of t
part_is (written own children) = refl

-- what the tile says is what is found of it
part_found : (store : Stored) (document tile : ℕ) (row : Row) (part : ImplicitParts)
    → HasRow store document tile row → row.parts.implicit ≡ Some part
    → part_at store document tile ≡ Some part
part_found store document tile row part has says =
    ap (option_and_then part_of) has.at
    ∙ sym (part_is has.tree)
    ∙ ap (λ (r : Row). r.parts.implicit) (sym has.row_is)
    ∙ says

-- what an implicit root is made of
pub record IsMade (store : Stored) (old : NodeList) (handed : Handed) (document tile : ℕ)
    (own : WrittenParts) (map : Map) (entry : Top) : Type 0 where
  pub name : entry.name ≡ handed_name store old handed
  pub document_is : entry.document ≡ document
  pub tile_is : entry.tile ≡ tile
  pub base : entry.base ≡ address_in store document
  pub refine : entry.refine ≡ unwrap_or own.refine handed.refine
  pub request : entry.request ≡ option_map (λ volume. moved volume map) own.request
  pub request_small : ForSome entry.request IsInRange
  pub volume : entry.volume ≡ moved own.volume map
  pub volume_small : IsInRange entry.volume
  pub error : entry.error ≡ moved_error own.error map
  pub error_small : entry.error ≤ error_limit

abbrev made : Map → ImplicitParts → List ℕ → ℕ → Refine → Option Volume → List ℕ → Volume
    → RootTile
made map part name error refine request base volume = record {
  name = name;
  holder = record { transform = map; error = error; refine = refine };
  request = request;
  root = record { part = part; base = base; volume = volume; error = error };
}

made_same : {map map' : Map} {name name' : List ℕ} {error error' : ℕ} {refine refine' : Refine}
    {request request' : Option Volume} {base base' : List ℕ} {volume volume' : Volume}
    (part : ImplicitParts)
    → map ≡ map' → name ≡ name' → error ≡ error' → refine ≡ refine' → request ≡ request'
    → base ≡ base' → volume ≡ volume'
    → made map part name error refine request base volume
    ≡ made map' part name' error' refine' request' base' volume'
made_same part a b c d e f g = cc

module _ (store : Stored) (old : NodeList) (tables : Tables) (handed : Handed)
    (document tile number : ℕ) (row : Row) (part : ImplicitParts) (entry : Top) (map : Map)
    (there : IsTileAt store document tile) (has : HasRow store document tile row)
    (says : row.parts.implicit ≡ Some part)
    (below : IsBelow old.tables.transforms.items tables.transforms.items handed.transform
    row.parts.transform entry.transform)
    (read : map_in tables.transforms.items entry.transform ≡ map)
    (is : IsMade store old handed document tile row.parts map entry)
    (tops : tables.tops.items ≡ old.tables.tops.items ++ entry ∷ [])
    (last : number ≡ length old.tables.tops.items)
    (levels : HasLevels part.octree part.subtree_levels part.available_levels)
    (contents : length part.contents < 2 ^ 32)
    (boxed : IsBoxInRange row.parts.volume) where
  abbrev top : RootTile
  top = handed_top store old handed document row.parts part

  -- the computed transform
  abbrev computed : Map
  computed = after (map_in old.tables.transforms.items handed.transform) row.parts.transform

  map_is : map ≡ computed
  map_is = sym read ∙ below.transform

  volume_is : entry.volume ≡ moved row.parts.volume computed
  volume_is = is.volume ∙ ap (moved row.parts.volume) map_is

  error_is : entry.error ≡ moved_error row.parts.error computed
  error_is = is.error ∙ ap (moved_error row.parts.error) map_is

  request_is : entry.request ≡ option_map (λ volume. moved volume computed) row.parts.request
  request_is =
      is.request
      ∙ ap (λ m. option_map (λ volume. moved volume m) row.parts.request) map_is

  top_is : top ≡ top_by (map_in tables.transforms.items entry.transform) entry part
  top_is =
      made_same part (sym below.transform) (sym is.name) (sym error_is) (sym is.refine)
      (sym request_is) (sym is.base) (sym volume_is)

  entry_at : slice_get tables.tops.items number ≡ Some entry
  entry_at =
      ap (λ ts. slice_get ts number) tops
      ∙ ap (slice_get (old.tables.tops.items ++ entry ∷ [])) last
      ∙ slice_get-last old.tables.tops.items entry

  is_top : IsTop store tables number top
  is_top = record {
    entry = entry;
    at = entry_at;
    transform = below.there;
    tile = subst (λ d. IsTileAt store d entry.tile) (sym is.document_is)
        (subst (IsTileAt store document) (sym is.tile_is) there);
    base = is.base ∙ ap (address_in store) (sym is.document_is);
    part = part;
    says = ap (λ d. part_at store d entry.tile) is.document_is
        ∙ ap (part_at store document) is.tile_is
        ∙ part_found store document tile row part has says;
    is = top_is;
    root = record {
      levels = levels;
      contents = contents;
      volume = record {
        is_box = still_box row.parts.volume computed boxed.is_box;
        in_range = subst IsInRange volume_is is.volume_small;
      };
      error = omega (arith, error_is, is.error_small);
    };
    request = subst (λ r. ForSome r IsInRange) request_is is.request_small;
  }

  pub adds_top : tables ≡ record old.tables { transforms = tables.transforms; tops = tables.tops }
      → AddsTop store top old (record old { tables = tables }) number
  adds_top same = record {
    nodes = refl;
    tables = record {
      transforms = below.front;
      waiting = subst (λ ws. IsFront old.tables.waiting.items ws)
          (sym (ap (λ (t : Tables). t.waiting.items) same)) (IsFront-same old.tables.waiting.items);
      tops = IsFront-more old.tables.tops.items tables.tops.items (entry ∷ []) tops;
      places = subst (λ ws. IsFront old.tables.places.items ws)
          (sym (ap (λ (t : Tables). t.places.items) same)) (IsFront-same old.tables.places.items);
      contents = subst (λ ws. IsFront old.tables.contents.items ws)
          (sym (ap (λ (t : Tables). t.contents.items) same))
          (IsFront-same old.tables.contents.items);
      external = subst (λ ws. IsFront old.tables.external.items ws)
          (sym (ap (λ (t : Tables). t.external.items) same))
          (IsFront-same old.tables.external.items);
    };
    waiting = ap (λ (t : Tables). t.waiting.items) same;
    is_top = is_top;
  }

-- ---- its node

-- what a tile says of implicit tiles below it
pub record HasPart (own : WrittenParts) : Type 0 where
  pub part : ImplicitParts
  pub says : own.implicit ≡ Some part

pub has_part : (own : WrittenParts) → own.implicit ≢ None → HasPart own
has_part own some = by_part own.implicit refl
  where
    by_part : (o : Option ImplicitParts) → own.implicit ≡ o → HasPart own
    by_part None e = absurd (some e)
    by_part (Some part) e = record { part = part; says = e }

abbrev written_by : Docs → Below → List ℕ → List ℕ → Holder → WrittenParts → WrittenTiles
    → Option ImplicitParts → Option Tree
written_by docs below base name holder own children implicit =
    elim implicit [
      | Some part ↦ implicit_tree docs below (root_tile base name holder own part)
      | None ↦ Some (tile_under docs below base name holder (written own children))
    ]

written_is : (docs : Docs) (below : Below) (base name : List ℕ) (above : Holder) (t : WrittenTile)
    (part : ImplicitParts) → (row_of t).parts.implicit ≡ Some part
    → written_tree docs below base name above t
    ≡ implicit_tree docs below
    (root_tile base name (holder_of above (row_of t).parts) (row_of t).parts part)
written_is docs below base name above (written own children) part e =
    ap (written_by docs below base name (holder_of above own) own children) e

-- the implicit root's own place
root_is_place : (root : RootParts) → IsRoot root → IsPlace root.part root_place
root_is_place root r = record {
  level = omega (arith, r.levels.some_available);
  x = omega arith;
  y = omega arith;
  z = along root.part.octree;
}
  where
    along : (octree : Bool) → 0 < count_along_z octree 0
    along false = omega arith
    along true = omega arith

module _ (store : Stored) (limit : Option ℕ) (old mid : NodeList) (handed : Handed)
    (document tile number : ℕ) (row : Row) (part : ImplicitParts)
    (has : HasRow store document tile row) (says : row.parts.implicit ≡ Some part)
    (adds : AddsTop store (handed_top store old handed document row.parts part) old mid number)
  where
    abbrev its : RootTile
    its = handed_top store old handed document row.parts part

    node_is : place_tree store mid.tables handed.levels number root_place
        ≡ written_at store old handed document tile
    node_is =
        let below = tilesets (docs store) handed.levels in
        let base = address_in store document in
        let name = handed_name store old handed in
        let above = handed_holder old handed 0 in
        let same : row.parts ≡ (row_of has.tree).parts = ap (λ (r : Row). r.parts) has.row_is in
        tree_is store mid.tables number its adds.is_top handed.levels root_place
        ∙ ap (λ l. implicit_node (docs store) below its l root_place)
        (all_levels its.root.part.available_levels)
        ∙ ap (λ own. implicit_tree (docs store) below
        (root_tile base name (holder_of above own) own part)) same
        ∙ sym (written_is (docs store) below base name above has.tree part
        (ap (λ (own : WrittenParts). own.implicit) (sym same) ∙ says))
        ∙ ap (option_and_then (written_tree (docs store) below base name above)) (sym has.at)
      where
        all_levels : (n : ℕ) → n - 0 ≡ n
        all_levels n = omega arith

    -- the list is as it was
    module _ (sound : IsSoundList store old) where
      sound_still : (i : ℕ) (n : TreeNode) → IsSound store old.tables i n
          → IsSound store mid.tables i n
      sound_still i n s = record {
        below = s.below;
        transform =
            omega (
              arith,
              s.transform,
              IsFront-length old.tables.transforms.items mid.tables.transforms.items
                  adds.tables.transforms,
            );
        there = there_stays store old.tables mid.tables adds.tables n.source s.there;
        few = s.few;
      }

      pub still_sound : IsSoundList store mid
      still_sound = record {
        nodes = λ i n e. sound_still i n
            (sound.nodes i n (ap (λ ns. slice_get ns i) (sym adds.nodes) ∙ e));
        first = front_get old.tables.transforms.items mid.tables.transforms.items
            adds.tables.transforms 0 identity sound.first;
      }

      trees_same : node_trees store mid ≡ node_trees store old
      trees_same =
          ap (trees_behind store mid.tables []) adds.nodes
          ∙ trees_stay store old.tables mid.tables adds.tables old.nodes.items sound.nodes

      pub grows_behind : (new : NodeList)
          → Grows store limit mid new
          (option_to_list (place_tree store mid.tables handed.levels number root_place))
          → Grows store limit old new (option_to_list (written_at store old handed document tile))
      grows_behind new g =
          subst (λ o. Grows store limit old new (option_to_list o)) node_is (record {
            nodes = subst (λ ns. IsFront ns new.nodes.items) adds.nodes g.nodes;
            trees = g.trees
                ∙ ap (λ ts. ts ++ option_to_list
                (place_tree store mid.tables handed.levels number root_place)) trees_same;
            sound = g.sound;
            within = λ h. g.within
                (subst (λ (ns : List TreeNode). IsWithin limit (length ns)) (sym adds.nodes) h);
            tables = Continues-then old.tables mid.tables new.tables adds.tables g.tables;
            waits = omega (arith, g.waits, ap length adds.waiting);
          })

    pub still_takes : CanTake old handed → CanTake mid handed
    still_takes can = record {
      parent = λ h. omega (
        arith,
        can.parent (omega (arith, h, ap length adds.nodes)),
        ap length adds.nodes,
      );
      transform =
          omega (
            arith,
            can.transform,
            IsFront-length old.tables.transforms.items mid.tables.transforms.items
                adds.tables.transforms,
          );
    }

    pub refused : (e : ListError)
        → Refuses limit (length mid.nodes.items + length
        (option_to_list (place_tree store mid.tables handed.levels number root_place))) e
        → Refuses limit (length old.nodes.items + length
        (option_to_list (written_at store old handed document tile))) e
    refused e r =
        subst (λ k. Refuses limit k e)
        (omega (arith, ap length adds.nodes, ap (λ o. length (option_to_list o)) node_is)) r

    -- what is found at its own place
    pub found_there : (root : RootParts) (at : Place) (found : FoundTile)
        → option_map (λ top. top.root) (top_in store mid.tables number) ≡ Some root
        → at ≡ root_place
        → IsFoundTile store root root_place
        (presence root (subtree_at (docs store)) root_place) found
        → IsFoundAt store mid.tables number at found
    found_there root at found told at_is is =
        subst (λ p. IsFoundAt store mid.tables number p found) (sym at_is) (record {
          top = its;
          is_top = adds.is_top;
          place = root_is_place its.root adds.is_top.root;
          is = subst (λ r. IsFoundTile store r root_place
              (presence r (subtree_at (docs store)) root_place) found)
              (told_root store mid.tables number its adds.is_top root told) is;
        })

-- ---- the node of a tile that is no implicit root

pub none_said : {A B : Type 0} (f : A → B) (o : Option A) (q : Option B) → is_some o ≡ false
    → option_map f o ≡ q → q ≡ None
none_said f None q e is = sym is
none_said f (Some a) q e is = cc

written_plain : (docs : Docs) (below : Below) (base name : List ℕ) (above : Holder)
    (t : WrittenTile) → (row_of t).parts.implicit ≡ None
    → written_tree docs below base name above t
    ≡ Some (tile_under docs below base name (holder_of above (row_of t).parts) t)
written_plain docs below base name above (written own children) e =
    ap (written_by docs below base name (holder_of above own) own children) e

module _ (store : Stored) (limit : Option ℕ) (old : NodeList) (handed : Handed)
    (document tile : ℕ) (row : Row) (has : HasRow store document tile row)
    (plain : row.parts.implicit ≡ None) where
  parts_same : row.parts ≡ (row_of has.tree).parts
  parts_same = ap (λ (r : Row). r.parts) has.row_is

  plain_there : (row_of has.tree).parts.implicit ≡ None
  plain_there = ap (λ (own : WrittenParts). own.implicit) (sym parts_same) ∙ plain

  pub one_tile : (new : NodeList) → IsSoundList store old → CanTake old handed
      → IsTileAt store document tile → length row.parts.contents < 2 ^ 32
      → AddsTile handed (Tile document tile) row.parts old new
      → IsWithin limit (length old.nodes.items + 1)
      → Grows store limit old new (option_to_list (written_at store old handed document tile))
  one_tile new sound can there few adds within =
      grows_tile store limit old new handed document tile row.parts has.tree sound can there has.at
      parts_same (sym (part_is has.tree) ∙ plain_there) few adds within

  counted : length (option_to_list (written_at store old handed document tile)) ≡ 1
  counted =
      let below = tilesets (docs store) handed.levels in
      let base = address_in store document in
      let name = handed_name store old handed in
      let above = handed_holder old handed 0 in
      ap (λ o. length (option_to_list o))
      (ap (option_and_then (written_tree (docs store) below base name above)) has.at
      ∙ written_plain (docs store) below base name above has.tree plain_there)

  pub refused_tile : (e : ListError) → Refuses limit (length old.nodes.items + 1) e
      → Refuses limit (length old.nodes.items + length
      (option_to_list (written_at store old handed document tile))) e
  refused_tile e r = subst (λ k. Refuses limit (length old.nodes.items + k) e) (sym counted) r
