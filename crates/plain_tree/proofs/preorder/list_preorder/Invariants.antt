use Rattle.std.proofs.Common.{◌+◌, ◌*◌, length}
use Rattle.tree_nodes.specs.Nodes.{node_trees}
use Rattle.plain_tree.proofs.Stacks.{Open, open_size}
use Rattle.plain_tree.proofs.preorder.list_preorder.Given as goal

abbrev pub invariant-loop-siblings : goal.invariant-loop-siblings
invariant-loop-siblings l = Open l._store l.plain l.listed.items l.stack.items

abbrev pub decreases-loop-siblings : goal.decreases-loop-siblings
decreases-loop-siblings l =
    2 * open_size (node_trees l._store l.plain.list) l.stack.items + length l.stack.items
