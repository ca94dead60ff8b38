-- The nodes of what is found at places.
use Rattle.std.proofs.Common.{ℕ, ◌≡◌, ◌+◌, Option, Some, option_to_list, length, refl, sym, ◌∙◌, ap, subst, arith}
use Rattle.implicit_walk.specs.declared.place.Place.{Place}
use Rattle.doc_store.specs.Store.{Stored}
use Rattle.expanded_tree.specs.Tree.{Tree}
use Rattle.tree_expansion.specs.Expansion.{RootTile}
use Rattle.tree_nodes.specs.declared.error.ListError.{ListError}
use Rattle.tree_nodes.specs.declared.found.FoundTile.TheVariants as tile
use Rattle.tree_nodes.specs.declared.node.Handed.{Handed}
use Rattle.tree_nodes.specs.declared.node_list.NodeList.{NodeList}
use Rattle.tree_nodes.specs.declared.place_entry.PlaceEntry.{PlaceEntry}
use Rattle.tree_nodes.specs.declared.place_entry.SubtreeState.{SubtreeState}
use Rattle.tree_nodes.specs.declared.place_entry.SubtreeState.TheVariants.{Read, Awaited}
use Rattle.tree_nodes.specs.declared.tables.Tables.{Tables}
use Rattle.tree_nodes.specs.Entries.{IsEntry, state_waits}
use Rattle.tree_nodes.specs.Growth.{AddsPlace, CanTake, Grows, IsWithin, Refuses}
use Rattle.tree_nodes.specs.Nodes.{IsSoundList}
use Rattle.tree_nodes.specs.Places.{HasTile, IsFoundAt, IsPlaced, IsState, IsTop, node_at, place_tree}
use Rattle.tree_nodes.specs.Waits.{top_waits}
use Rattle.tree_nodes.proofs.Growing.{grows_none, grows_place}
use Rattle.tree_nodes.proofs.PlaceNodes.{awaited_at, none_at, tile_at}
use Rattle.tree_nodes.proofs.Places.{tree_is, tree_stays}

pub has_tile : (store : Stored) (list : NodeList) (number subtree : ℕ) (at : Place)
    → IsFoundAt store list.tables number at (tile.Read subtree)
    → HasTile store list.tables number subtree at
has_tile store list number subtree at f = record {
  top = f.top;
  is_top = f.is_top;
  place = f.place;
  tile = record { present = f.is.0; subtree = f.is.1 };
}

-- a node is left at the place, and waits as its entry says
record HasNode (store : Stored) (tables : Tables) (levels number : ℕ) (at : Place)
    (entry : PlaceEntry) : Type 0 where
  tree : Tree
  is : place_tree store tables levels number at ≡ Some tree
  waits : top_waits tree ≡ state_waits entry.state

entry_node : (store : Stored) (tables : Tables) (levels : ℕ) (entry : PlaceEntry) (top : RootTile)
    → IsPlaced store tables entry top
    → HasNode store tables levels entry.top entry.at entry
entry_node store tables levels entry top p = by_state entry.state refl p.state
  where
    is : place_tree store tables levels entry.top entry.at ≡ node_at store levels top entry.at
    is = tree_is store tables entry.top top p.is_top levels entry.at

    by_state : (s : SubtreeState) → entry.state ≡ s → IsState store tables top.root entry.at s
        → HasNode store tables levels entry.top entry.at entry
    by_state (Read number) e s = record {
      tree = _;
      is = is ∙ tile_at store levels top entry.at p.place s.present;
      waits = ap state_waits (sym e);
    }
    by_state (Awaited number) e s = record {
      tree = _;
      is = is ∙ awaited_at store levels top entry.at p.place s.entry.key s.waits;
      waits = ap state_waits (sym e);
    }

module _ (store : Stored) (limit : Option ℕ) (old : NodeList) (handed : Handed) (number : ℕ)
    (at : Place) where
  pub found_none : IsSoundList store old → IsFoundAt store old.tables number at tile.No
      → Grows store limit old old (option_to_list
      (place_tree store old.tables handed.levels number at))
  found_none sound f =
      subst (λ o. Grows store limit old old (option_to_list o))
      (sym (tree_is store old.tables number f.top f.is_top handed.levels at
      ∙ none_at store handed.levels f.top at f.place f.is))
      (grows_none store limit old sound)

  module _ (top : RootTile) (is_top : IsTop store old.tables number top) (mid : NodeList)
      (entry : PlaceEntry) (made : IsEntry store old.tables mid.tables number at entry) where
    there : HasNode store old.tables handed.levels number at entry
    there =
        let own = entry_node store mid.tables handed.levels entry made.has.top
        made.has.placed in
        record {
          tree = own.tree;
          is = sym (tree_stays store old.tables mid.tables made.tables handed.levels number top at
              is_top)
              ∙ ap (λ k. place_tree store mid.tables handed.levels k at) (sym made.number_is)
              ∙ ap (place_tree store mid.tables handed.levels entry.top) (sym made.place)
              ∙ own.is;
          waits = own.waits;
        }

    -- one node more, or too many
    pub refused : (e : ListError) → mid.nodes.items ≡ old.nodes.items
        → Refuses limit (length mid.nodes.items + 1) e
        → Refuses limit (length old.nodes.items + length (option_to_list
        (place_tree store old.tables handed.levels number at))) e
    refused e nodes r =
        subst (λ k. Refuses limit k e)
        (omega (arith, ap length nodes, ap (λ o. length (option_to_list o)) there.is)) r

    pub found_some : (new : NodeList) → IsSoundList store old → CanTake old handed
        → mid.nodes.items ≡ old.nodes.items
        → AddsPlace handed entry mid new → IsWithin limit (length mid.nodes.items + 1)
        → Grows store limit old new (option_to_list
        (place_tree store old.tables handed.levels number at))
    found_some new sound can nodes adds within =
        subst (λ o. Grows store limit old new (option_to_list o)) (sym there.is)
        (grows_place store limit old mid new handed number at top entry there.tree sound can nodes
        is_top made adds within there.is there.waits)
