use Rattle.std.proofs.Common.{◌≡◌, length, string_bytes}
use Rattle.expanded_tree.specs.Tree.{name_of}
use Rattle.tree_nodes.specs.TreeIn.{tree_in}
use Rattle.tree_nodes.specs.Nodes.{node_trees}
use Rattle.tree_nodes.proofs.PlaceNames.{Upwards, below_name}
use Rattle.tree_nodes.proofs.names.write_name_over.Given as goal

abbrev pub invariant-loop-node : goal.invariant-loop-node
invariant-loop-node l = Upwards l.store l.list l.place l.at l.path.items

abbrev pub decreases-loop-node : goal.decreases-loop-node
decreases-loop-node l = l.at

abbrev pub invariant-loop-number : goal.invariant-loop-number
invariant-loop-number l =
    name_of (tree_in (node_trees l.store l.list) l.place) ≡ below_name (string_bytes l.name)
    l.path.items

abbrev pub decreases-loop-number : goal.decreases-loop-number
decreases-loop-number l = length l.path.items
