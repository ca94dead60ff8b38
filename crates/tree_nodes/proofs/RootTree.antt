-- The root of a store's tree, in a list without nodes.
use Rattle.std.proofs.Common.{ℕ, ◌≡◌, Some, List, [], ◌∷◌, length, codes, sym, ◌∙◌, ap, subst, arith}
use Rattle.std.specs.List.{slice_get}
use Rattle.std.specs.Option.{option_map}
use Rattle.doc_store.specs.Docs.{Loaded}
use Rattle.doc_store.specs.Store.{Stored, docs}
use Rattle.tree_expansion.specs.Expansion.{top_holder, expand, tileset, tilesets}
use Rattle.tile_types.specs.declared.refine.Refine.TheVariants.{Replace}
use Rattle.tree_nodes.specs.declared.node.Handed.{Handed}
use Rattle.tree_nodes.specs.declared.node.TreeNode.{TreeNode}
use Rattle.tree_nodes.specs.declared.node_list.NodeList.{NodeList}
use Rattle.tree_nodes.specs.Trees.{first_address, stored_tree}
use Rattle.tree_nodes.specs.Places.{map_in}
use Rattle.tree_nodes.specs.Nodes.{AreSoundIn, IsSoundList, name_by, node_trees, trees_behind}
use Rattle.tree_nodes.specs.Growth.{CanTake, IsEmptyList, handed_holder, handed_name}

-- what the root takes over
abbrev pub root_handed : Handed
root_handed = record { parent = 0; transform = 0; number = 0; levels = 16; refine = Replace }

address_is : (ls : List Loaded) (address : List ℕ)
    → option_map (λ l. l.key.address) (slice_get ls 0) ≡ Some address → first_address ls ≡ address
address_is [] address e = cc
address_is (l ∷ ls) address e = cc

module _ (store : Stored) (list : NodeList) (e : IsEmptyList list) where
  pub no_trees : node_trees store list ≡ []
  unfolding trees_behind
  no_trees = ap (λ ns. trees_behind store list.tables [] ns) e.nodes

  pub empty_sound : IsSoundList store list
  empty_sound = record {
    nodes = subst (AreSoundIn store list.tables) (sym e.nodes) (λ i n at. cc);
    first = ap (λ ms. slice_get ms 0) e.transforms;
  }

  pub empty_can : CanTake list root_handed
  empty_can = record {
    parent = λ h. absurd (omega (arith, ap length e.nodes, h));
    transform = omega (arith, ap length e.transforms);
  }

  root_name : handed_name store list root_handed ≡ codes "r"
  root_name = ap (λ (ns : List TreeNode). name_by (node_trees store list) (length ns) 0 0) e.nodes

  root_holder : handed_holder list root_handed 0 ≡ top_holder
  root_holder = ap (λ ms. record { transform = map_in ms 0; error = 0; refine = Replace })
      e.transforms

  -- what is added is the tree of the store
  pub root_is : (address : List ℕ) → option_map (λ l. l.key.address) (slice_get store.loaded 0)
      ≡ Some address
      → tileset (docs store) (tilesets (docs store) 16) (handed_name store list root_handed)
      (handed_holder list root_handed 0) address
      ≡ stored_tree store
  unfolding stored_tree expand
  root_is address at =
      ap (λ name. tileset (docs store) (tilesets (docs store) 16) name
      (handed_holder list root_handed 0) address) root_name
      ∙ ap (λ holder. tileset (docs store) (tilesets (docs store) 16) (codes "r") holder address)
      root_holder
      ∙ ap (tileset (docs store) (tilesets (docs store) 16) (codes "r") top_holder)
      (sym (address_is store.loaded address at))
