-- The nodes of a tree in preorder.
use Rattle.std.specs.Prelude.{Option, Some, None, List, [], ◌∷◌, ◌++◌}
use Rattle.expanded_tree.specs.Tree.{Tree, Trees, tile, pending, no_trees, more_trees}

abbrev mutual
  pub tree_nodes : Tree → List Tree
  tree_nodes (tile parts children) = tile parts children ∷ all_tree_nodes children
  tree_nodes (pending name facts key) = pending name facts key ∷ []

  pub all_tree_nodes : Trees → List Tree
  all_tree_nodes no_trees = []
  all_tree_nodes (more_trees t ts) = tree_nodes t ++ all_tree_nodes ts

-- those of a whole tree, none of an empty one
abbrev pub nodes_of : Option Tree → List Tree
nodes_of None = []
nodes_of (Some t) = tree_nodes t
