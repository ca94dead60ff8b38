-- A list of all nodes of a store's tree.
use Rattle.std.specs.Prelude.{◌≡◌, length, slice_get}
use Rattle.doc_store.specs.Store.{Stored}
use Rattle.tree_nodes.specs.Trees.{stored_tree}
use Rattle.tree_nodes.specs.Nodes.{IsSoundList, node_trees}
use Rattle.tree_nodes.specs.Waits.{waits_in}
use Rattle.plain_tree.specs.declared.plain_list.PlainList.{PlainList}
use Rattle.plain_tree.specs.Windows.{AreParents}

-- the first node stands for the tree, the children of each stand side by side, and as many nodes
-- wait as are listed
pub record IsListed (store : Stored) (plain : PlainList) : Type 0 where
  pub sound : IsSoundList store plain.list
  pub root : slice_get (node_trees store plain.list) 0 ≡ stored_tree store
  pub children : AreParents (node_trees store plain.list) plain.bounds.items
  pub waits : waits_in (stored_tree store) ≡ length plain.list.tables.waiting.items
