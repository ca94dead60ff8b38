-- All nodes below the root.
use Rattle.std.specs.Prelude.{ℕ, ◌≡◌, Option, List, length, slice_get}
use Rattle.doc_store.specs.Store.{Stored}
use Rattle.expanded_tree.specs.Tree.{tree_size}
use Rattle.tree_nodes.specs.declared.node_list.NodeList.{NodeList}
use Rattle.tree_nodes.specs.Growth.{IsWithin}
use Rattle.tree_nodes.specs.Nodes.{IsSoundList, node_trees}
use Rattle.tree_nodes.specs.TreeIn.{tree_in}
use Rattle.tree_nodes.specs.Waits.{pending_count, top_waits}
use Rattle.plain_tree.specs.Windows.{AreParents}

-- all nodes below the one of the old list, with where the children of each begin
pub record IsGrown (store : Stored) (limit : Option ℕ) (old new : NodeList)
    (bounds : List ℕ) : Type 0 where
  pub sound : IsSoundList store new
  pub root : slice_get (node_trees store new) 0 ≡ slice_get (node_trees store old) 0
  pub children : AreParents (node_trees store new) bounds
  pub counted : tree_size (tree_in (node_trees store old) 0) ≡ length new.nodes.items
  pub within : IsWithin limit 1 → IsWithin limit (length new.nodes.items)
  pub waits : length old.tables.waiting.items ≡ top_waits (tree_in (node_trees store old) 0)
      → pending_count (tree_in (node_trees store old) 0) ≡ length new.tables.waiting.items
