-- Nodes speak of what a store has, whatever memory it has taken for more absent keys.
use Rattle.std.proofs.Common.{ℕ, ◌≡◌, Option, Some, None, List, [], ◌∷◌, ◌++◌, length, refl, sym, ◌∙◌, ap, subst}
use Rattle.std.specs.List.{slice_get}
use Rattle.implicit_walk.specs.declared.place.Place.{Place}
use Rattle.implicit_walk.specs.Roots.{RootParts}
use Rattle.doc_store.specs.Store.{Stored}
use Rattle.expanded_tree.specs.Tree.{Tree}
use Rattle.tree_expansion.specs.Expansion.{RootTile}
use Rattle.tree_nodes.specs.declared.node.NodeSource.{NodeSource}
use Rattle.tree_nodes.specs.declared.node.NodeSource.TheVariants.{Tile, Pending, Implicit}
use Rattle.tree_nodes.specs.declared.node.TreeNode.{TreeNode}
use Rattle.tree_nodes.specs.declared.node_list.NodeList.{NodeList}
use Rattle.tree_nodes.specs.declared.place_entry.PlaceEntry.{PlaceEntry}
use Rattle.tree_nodes.specs.declared.place_entry.SubtreeState.{SubtreeState}
use Rattle.tree_nodes.specs.declared.place_entry.SubtreeState.TheVariants.{Read, Awaited}
use Rattle.tree_nodes.specs.declared.tables.Tables.{Tables}
use Rattle.tree_nodes.specs.Tiles.{IsTileAt}
use Rattle.tree_nodes.specs.Places.{IsPlaceAt, IsState, IsSubtreeOf, IsTop}
use Rattle.tree_nodes.specs.Nodes.{HasFewContents, IsSoundList, IsThere, name_by, node_tree, node_trees, placed_node, source_tree, trees_behind}

abbrev with_spare : Stored → ℕ → Stored
with_spare store spare = record store { spare = spare }

module _ (store : Stored) (spare : ℕ) (tables : Tables) where
  tile_still : (document tile : ℕ) → IsTileAt store document tile
      → IsTileAt (with_spare store spare) document tile
  tile_still document tile t = record {
    tiles = t.tiles;
    read = t.read;
    tree = t.tree;
    stands = t.stands;
    address = t.address;
  }

  subtree_still : (root : RootParts) (at : Place) (number : ℕ) → IsSubtreeOf store root at number
      → IsSubtreeOf (with_spare store spare) root at number
  subtree_still root at number s =
      record { parts = s.parts; found = s.found; read = s.read; of_root = s.of_root }

  top_still : (number : ℕ) (top : RootTile) → IsTop store tables number top
      → IsTop (with_spare store spare) tables number top
  top_still number top t = record {
    entry = t.entry;
    at = t.at;
    transform = t.transform;
    tile = tile_still t.entry.document t.entry.tile t.tile;
    base = t.base;
    part = t.part;
    says = t.says;
    is = t.is;
    root = t.root;
    request = t.request;
  }

  state_still : (root : RootParts) (at : Place) (state : SubtreeState)
      → IsState store tables root at state
      → IsState (with_spare store spare) tables root at state
  state_still root at (Read number) s =
      record { present = s.present; subtree = subtree_still root at number s.subtree }
  state_still root at (Awaited number) s =
      record { entry = s.entry; there = s.there; waits = s.waits }

  place_still : (number : ℕ) → IsPlaceAt store tables number
      → IsPlaceAt (with_spare store spare) tables number
  place_still number p =
      let placed = p.has.placed in
      record {
        entry = p.entry;
        at = p.at;
        has = record {
          top = p.has.top;
          placed = record {
            is_top = top_still p.entry.top p.has.top placed.is_top;
            place = placed.place;
            state = state_still p.has.top.root p.entry.at p.entry.state placed.state;
            contents = placed.contents;
            external = placed.external;
          };
        };
      }

  there_still : (source : NodeSource) → IsThere store tables source
      → IsThere (with_spare store spare) tables source
  there_still (Tile document tile) t = tile_still document tile t
  there_still (Pending number) p = p
  there_still (Implicit number) p = place_still number p

  few_still : (source : NodeSource) → HasFewContents store source
      → HasFewContents (with_spare store spare) source
  few_still (Tile document tile) h = h
  few_still (Pending number) h = h
  few_still (Implicit number) h = h

  placed_still : (levels : ℕ) (entry : Option PlaceEntry)
      → placed_node (with_spare store spare) tables levels entry ≡ placed_node store tables levels
      entry
  placed_still levels None = refl
  placed_still levels (Some entry) = refl

  source_still : (name : List ℕ) (n : TreeNode) (source : NodeSource)
      → source_tree (with_spare store spare) tables name n source ≡ source_tree store tables name n
      source
  source_still name n (Tile document tile) = refl
  source_still name n (Pending number) = refl
  source_still name n (Implicit number) =
      placed_still n.levels (slice_get tables.places.items number)

  trees_still : (before : List Tree) (ns : List TreeNode)
      → trees_behind (with_spare store spare) tables before ns ≡ trees_behind store tables before ns
  unfolding trees_behind
  trees_still before [] = refl
  trees_still before (n ∷ ns) =
      trees_still (before
      ++ node_tree (with_spare store spare) tables before (length before) n ∷ []) ns
      ∙ ap (λ t. trees_behind store tables (before ++ t ∷ []) ns)
      (source_still (name_by before (length before) n.parent n.number) n n.source)

-- ---- stores with the same documents

module _ (old new : Stored) (loaded : new.loaded ≡ old.loaded) (gone : new.gone ≡ old.gone) where
  same_store : with_spare old new.spare ≡ new
  same_store =
      ap (λ ls. record { loaded = ls; gone = old.gone; spare = new.spare }) (sym loaded)
      ∙ ap (λ ks. record { loaded = new.loaded; gone = ks; spare = new.spare }) (sym gone)

  pub spare_sound : (list : NodeList) → IsSoundList old list → IsSoundList new list
  spare_sound list s =
      subst (λ store. IsSoundList store list) same_store (record {
        nodes = λ i n at.
            let here = s.nodes i n at in
            record {
              below = here.below;
              transform = here.transform;
              there = there_still old new.spare list.tables n.source here.there;
              few = few_still old new.spare list.tables n.source here.few;
            };
        first = s.first;
      })

  pub spare_trees : (list : NodeList) → node_trees new list ≡ node_trees old list
  spare_trees list =
      ap (λ store. node_trees store list) (sym same_store)
      ∙ trees_still old new.spare list.tables [] list.nodes.items
