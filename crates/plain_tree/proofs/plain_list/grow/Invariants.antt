use Rattle.std.proofs.Common.{◌-◌}
use Rattle.expanded_tree.specs.Tree.{tree_size}
use Rattle.tree_nodes.specs.TreeIn.{tree_in}
use Rattle.tree_nodes.specs.Nodes.{node_trees}
use Rattle.plain_tree.proofs.WholeTrees.{Levels}
use Rattle.plain_tree.proofs.plain_list.grow.Given as goal

abbrev pub invariant-loop-place : goal.invariant-loop-place
invariant-loop-place l = Levels l.store l.limit l.fn.list l.list l.bounds.items l.place

abbrev pub decreases-loop-place : goal.decreases-loop-place
decreases-loop-place l = tree_size (tree_in (node_trees l.store l.fn.list) 0) - l.place
