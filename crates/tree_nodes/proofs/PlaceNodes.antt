-- The node of a place by its presence.
use Rattle.std.specs.Prelude.{if◌then◌else◌}
use Rattle.std.proofs.Common.{ℕ, suc, ◌≡◌, ◌+◌, ◌-◌, Bool, true, false, Option, Some, None, option_to_list, List, [], ◌++◌, map, refl, sym, ◌∙◌, ap, arith}
use Rattle.std.specs.List.{flat_map, range_with_len}
use Rattle.std.proofs.lemmas.List.Folds.{flat_map-map}
use Rattle.tile_types.specs.declared.key.Key.{Key}
use Rattle.subtree_binary.specs.Counts.{arity}
use Rattle.implicit_walk.specs.declared.place.Place.{Place}
use Rattle.implicit_walk.specs.declared.presence.Presence.{Presence}
use Rattle.implicit_walk.specs.declared.presence.Presence.TheVariants.{No, Tile, Waiting}
use Rattle.implicit_walk.specs.Places.{IsPlace, child, child_places, has_children}
use Rattle.implicit_walk.specs.Presences.{presence}
use Rattle.doc_store.specs.Docs.{Docs, subtree_at}
use Rattle.doc_store.specs.Store.{Stored, docs}
use Rattle.expanded_tree.specs.Tree.{Tree, pending}
use Rattle.tree_expansion.specs.Expansion.{Below, RootTile, external_of, externals, implicit_node, place_contents, place_facts, place_holder, place_name, place_tile, tilesets}
use Rattle.tree_nodes.specs.Places.{children_at, levels_left, node_at}

-- the children of the tile at a place, where so many levels are left below it
abbrev children_of : Docs → Below → RootTile → ℕ → Place → List Tree
children_of docs below top levels at =
    flat_map (λ place. option_to_list (implicit_node docs below top levels place))
    (child_places top.root.part at)
    ++ externals below (place_name top at) (place_holder top at) 0
    (external_of (place_contents docs top at))

abbrev tree_of : Docs → Below → RootTile → ℕ → Place → Tree
tree_of docs below top levels at =
    place_tile top at (place_contents docs top at) (children_of docs below top levels at)

abbrev awaited_of : RootTile → Place → Key → Tree
awaited_of top at key = pending (place_name top at) (place_facts top at []) key

abbrev by_presence : Docs → Below → RootTile → ℕ → Place → Presence → Option Tree
by_presence docs below top levels at p =
    elim p [
      | No ↦ None
      | Waiting key ↦ Some (awaited_of top at key)
      | Tile ↦ Some (tree_of docs below top levels at)
    ]

-- how many levels are left below a place
abbrev pub left_below : RootTile → Place → ℕ
left_below top at = top.root.part.available_levels - (at.level + 1)

module _ (store : Stored) (levels : ℕ) (top : RootTile) (at : Place)
    (place : IsPlace top.root.part at) where
  abbrev below : Below
  below = tilesets (docs store) levels

  one_more : levels_left top at ≡ suc (left_below top at)
  one_more = omega (arith, place.level)

  node_is : (p : Presence) → presence top.root (subtree_at (docs store)) at ≡ p
      → node_at store levels top at ≡ by_presence (docs store) below top (left_below top at) at p
  node_is p e =
      ap (λ l. implicit_node (docs store) below top l at) one_more
      ∙ ap (by_presence (docs store) below top (left_below top at) at) e

  pub none_at : presence top.root (subtree_at (docs store)) at ≡ No
      → node_at store levels top at ≡ None
  none_at e = node_is No e

  pub awaited_at : (key : Key) → presence top.root (subtree_at (docs store)) at ≡ Waiting key
      → node_at store levels top at ≡ Some (awaited_of top at key)
  awaited_at key e = node_is (Waiting key) e

  pub tile_at : presence top.root (subtree_at (docs store)) at ≡ Tile
      → node_at store levels top at
      ≡ Some (tree_of (docs store) below top (left_below top at) at)
  tile_at e = node_is Tile e

  -- the children in Morton order
  same_children : (b : Bool)
      → flat_map (λ place. option_to_list
      (implicit_node (docs store) below top (left_below top at) place))
      (if b then map (child at) (range_with_len 0 (arity top.root.part.octree)) else [])
      ≡ flat_map (λ place. option_to_list (node_at store levels top place))
      (if b then map (child at) (range_with_len 0 (arity top.root.part.octree)) else [])
  same_children false = refl
  same_children true =
      flat_map-map (λ place. option_to_list
      (implicit_node (docs store) below top (left_below top at) place)) (child at)
      (range_with_len 0 (arity top.root.part.octree))
      ∙ sym (flat_map-map (λ place. option_to_list (node_at store levels top place)) (child at)
      (range_with_len 0 (arity top.root.part.octree)))

  pub children_are : children_of (docs store) below top (left_below top at) at
      ≡ children_at store levels top at
      ++ externals below (place_name top at) (place_holder top at) 0
      (external_of (place_contents (docs store) top at))
  children_are =
      ap (λ ts. ts ++ externals below (place_name top at) (place_holder top at) 0
      (external_of (place_contents (docs store) top at)))
      (same_children (has_children top.root.part at))
