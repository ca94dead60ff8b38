-- What a plain tree stands for.
use Rattle.std.specs.Prelude.{nat_lt, List, length}
use Rattle.doc_store.specs.Store.{Stored}
use Rattle.expanded_tree.specs.declared.node.Node.{Node}
use Rattle.expanded_tree.specs.Standing.{Standing}
use Rattle.expanded_tree.specs.Tree.{Tree}
use Rattle.tree_nodes.specs.Nodes.{node_trees}
use Rattle.tree_nodes.specs.TreeIn.{tree_in}
use Rattle.tree_nodes.specs.Trees.{stored_tree}
use Rattle.plain_tree.specs.declared.plain_list.PlainList.{PlainList}

-- a store, the list of the nodes of its tree, and those that were opened since the last `top`
pub record Plain : Type 0 where
  pub store : Stored
  pub nodes : PlainList
  pub opened : List Node

-- the tree of each node
abbrev pub trees_of : Plain → List Tree
trees_of plain = node_trees plain.store plain.nodes.list

-- every node is valid and has its children at hand
abbrev pub standing_of : Plain → Standing
standing_of plain = record {
  tree = stored_tree plain.store;
  node_tree = λ n. tree_in (trees_of plain) n.number;
  is_valid = λ n. nat_lt n.number (length plain.nodes.list.nodes.items);
  at_hand = λ n. nat_lt n.number (length plain.nodes.list.nodes.items);
  opened = plain.opened;
}
