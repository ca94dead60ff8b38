-- Which nodes are opened on the way from one state to another.
use Rattle.std.specs.Prelude.{◌≡◌, List, ◌++◌}
use Rattle.expanded_tree.specs.declared.node.Node.{Node}
use Rattle.expanded_tree.specs.Tree.{Tree}
use Rattle.expanded_tree.specs.Standing.{Standing, Stand, StandIn}

-- a node for each of the trees, each once and in order, and no other
pub record OpensEach (old new : Standing) (trees : List Tree) : Type 0 where
  pub nodes : List Node
  pub opened : new.opened ≡ old.opened ++ nodes
  pub stand : Stand new nodes trees

-- only nodes that stand for some of the trees, each once and in order
pub record OpensSome (old new : Standing) (trees : List Tree) : Type 0 where
  pub nodes : List Node
  pub opened : new.opened ≡ old.opened ++ nodes
  pub stand : StandIn new nodes trees
