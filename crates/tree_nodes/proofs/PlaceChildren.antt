-- The nodes of the places below a tile, one after the other.
use Rattle.std.specs.Prelude.{All}
use Rattle.std.proofs.Common.{ℕ, suc, ◌≡◌, ◌+◌, ◌<◌, ◌≤◌, Option, option_to_list, List, [], ◌∷◌, ◌++◌, length, get_or, take, sym, ◌∙◌, ap, subst, arith, take_all, append-nil}
use Rattle.std.specs.List.{flat_map}
use Rattle.std.specs.Option.{option_and_then}
use Rattle.std.proofs.Math.Seq.{take-suc}
use Rattle.std.proofs.lemmas.Grind.{flat_map-append}
use Rattle.std.proofs.lemmas.List.Elements.{All-get_or}
use Rattle.std.proofs.lemmas.List.Folds.{length-flat_map-take}
use Rattle.implicit_walk.specs.declared.place.Place.{Place}
use Rattle.implicit_walk.specs.Places.{IsChild, child_places, root_place}
use Rattle.implicit_walk.specs.Roots.{RootParts}
use Rattle.doc_store.specs.Store.{Stored}
use Rattle.expanded_tree.specs.Tree.{Tree}
use Rattle.tree_expansion.specs.Expansion.{RootTile}
use Rattle.tree_nodes.specs.declared.error.ListError.{ListError}
use Rattle.tree_nodes.specs.declared.node.Handed.{Handed}
use Rattle.tree_nodes.specs.declared.node_list.NodeList.{NodeList}
use Rattle.tree_nodes.specs.declared.tables.Tables.{Tables}
use Rattle.tree_nodes.specs.Growth.{CanTake, Grows, Refuses}
use Rattle.tree_nodes.specs.Nodes.{IsSoundList}
use Rattle.tree_nodes.specs.Places.{HasTile, IsBelowTile, IsSubtreeOf, node_at, place_children, place_tree}
use Rattle.tree_nodes.proofs.Growing.{can_still, grows_length, grows_none, grows_then}
use Rattle.tree_nodes.proofs.Places.{children_are, top_is, top_stays, tree_stays}
use Rattle.tree_nodes.proofs.Refusals.{refuses_more}

-- the nodes that these places leave
abbrev pub trees_at : Stored → Tables → ℕ → ℕ → List Place → List Tree
trees_at store tables levels number places =
    flat_map (λ place. option_to_list (place_tree store tables levels number place)) places

-- the first places have their nodes
pub record First (store : Stored) (limit : Option ℕ) (old now : NodeList) (handed : Handed)
    (number : ℕ) (places : List Place) (index : ℕ) : Type 0 where
  pub grows : Grows store limit old now
      (trees_at store old.tables handed.levels number (take index places))

pub none_yet : (store : Stored) (limit : Option ℕ) (old : NodeList) (handed : Handed) (number : ℕ)
    (places : List Place) → IsSoundList store old
    → First store limit old old handed number places 0
none_yet store limit old handed number places sound = record {
  grows = grows_none store limit old sound;
}

-- the row of places below the tile
pub record IsRow (top : RootTile) (at : Place) (places : List Place) : Type 0 where
  pub is : places ≡ child_places top.root.part at
  pub children : All (IsChild top.root.part at) places

-- by what calls tell
pub is_row : (store : Stored) (old : NodeList) (number subtree : ℕ) (at : Place)
    (h : HasTile store old.tables number subtree at) (root : RootParts) (row places : List Place)
    → root ≡ h.top.root → row ≡ child_places root.part at → All (IsChild root.part at) row
    → places ≡ row → IsRow h.top at places
is_row store old number subtree at h root row places same is children e = record {
  is = e ∙ is ∙ ap (λ (r : RootParts). child_places r.part at) same;
  children = subst (All (IsChild h.top.root.part at)) (sym e)
      (subst (λ (r : RootParts). All (IsChild r.part at) row) same children);
}

module _ (store : Stored) (limit : Option ℕ) (old now : NodeList) (handed : Handed)
    (number subtree : ℕ) (at : Place) (h : HasTile store old.tables number subtree at)
    (places : List Place) (row : IsRow h.top at places) (index : ℕ)
    (w : First store limit old now handed number places index) where
  trees_are : trees_at store old.tables handed.levels number places
      ≡ place_children store old.tables handed.levels number at
  trees_are =
      ap (λ o. flat_map (λ place. option_to_list
      (option_and_then (λ u. node_at store handed.levels u place) o)) places)
      (top_is store old.tables number h.top h.is_top)
      ∙ ap (flat_map (λ place. option_to_list (node_at store handed.levels h.top place))) row.is
      ∙ sym (children_are store old.tables number h.top h.is_top handed.levels at)

  pub all_places : length places ≤ index → Grows store limit old now
      (place_children store old.tables handed.levels number at)
  all_places past =
      subst (Grows store limit old now)
      (ap (trees_at store old.tables handed.levels number) (take_all index places past) ∙ trees_are)
      w.grows

  pub can_now : CanTake old handed → 0 < length old.nodes.items → CanTake now handed
  can_now can some = can_still store limit old now _ handed w.grows can some

  module _ (inside : index < length places) where
    abbrev next : Place
    next = get_or places index root_place

    pub is_below : IsBelowTile store now.tables number subtree (get_or places index root_place)
    is_below =
        let c = All-get_or (IsChild h.top.root.part at) places index root_place inside
        row.children in
        record {
          top = h.top;
          is_top = top_stays store old.tables now.tables w.grows.tables number h.top h.is_top;
          place = c.place;
          below = c.below;
          subtree_above = subst (λ p. IsSubtreeOf store h.top.root p subtree) (sym c.parent)
              h.tile.subtree;
        }

    one_is : place_tree store now.tables handed.levels number (get_or places index root_place)
        ≡ place_tree store old.tables handed.levels number (get_or places index root_place)
    one_is = tree_stays store old.tables now.tables w.grows.tables handed.levels number h.top
        (get_or places index root_place) h.is_top

    pub one_place : (new : NodeList)
        → Grows store limit now new (option_to_list
        (place_tree store now.tables handed.levels number (get_or places index root_place)))
        → First store limit old new handed number places (index + 1)
    one_place new g = record {
      grows = subst (Grows store limit old new)
          (sym (ap (trees_at store old.tables handed.levels number) (more places index inside)
          ∙ flat_map-append (λ place. option_to_list
          (place_tree store old.tables handed.levels number place)) (take index places)
          (get_or places index root_place ∷ [])
          ∙ ap (λ ts. trees_at store old.tables handed.levels number (take index places) ++ ts)
          (append-nil (option_to_list (place_tree store old.tables handed.levels number
          (get_or places index root_place))))))
          (grows_then store limit old now new _ _ w.grows
          (subst (λ o. Grows store limit now new (option_to_list o)) one_is g));
    }
      where
        more : (xs : List Place) (i : ℕ) → i < length xs
            → take (i + 1) xs ≡ take i xs ++ get_or xs i root_place ∷ []
        more xs i k =
            let next_is : i + 1 ≡ suc i = omega arith in
            ap (λ n. take n xs) next_is ∙ take-suc xs i root_place k

    pub too_many : (e : ListError)
        → Refuses limit (length now.nodes.items + length (option_to_list
        (place_tree store now.tables handed.levels number (get_or places index root_place)))) e
        → Refuses limit (length old.nodes.items + length
        (place_children store old.tables handed.levels number at)) e
    too_many e r =
        refuses_more limit _
        (length old.nodes.items + length
        (place_children store old.tables handed.levels number at)) e
        (omega (
          arith,
          ap length trees_are,
          ap (λ o. length (option_to_list o)) one_is,
          grows_length store limit old now _ w.grows,
          length-flat_map-take (λ place. option_to_list
              (place_tree store old.tables handed.levels number place)) places index root_place
              inside,
        )) r
