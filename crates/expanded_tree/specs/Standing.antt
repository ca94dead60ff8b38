-- What a tree that is walked stands for, and what stays while it is opened.
use Rattle.std.specs.Prelude.{◌≡◌, Bool, IsTrue, Option, Some, None, MatchOption, List, [], ◌∷◌}
use Rattle.expanded_tree.specs.declared.node.Node.{Node}
use Rattle.expanded_tree.specs.Tree.{Tree}

-- the whole tree, the tree of each valid node, which nodes are valid, which have their children at
-- hand, and the nodes that were opened since the last `top`, in order
pub record Standing : Type 0 where
  pub tree : Option Tree
  pub node_tree : Node → Tree
  pub is_valid : Node → Bool
  pub at_hand : Node → Bool
  pub opened : List Node

-- the tree stays, and so do the valid nodes, their trees and the children at hand
pub record Keeps (old new : Standing) : Type 0 where
  pub tree : new.tree ≡ old.tree
  pub valid : (n : Node) → IsTrue (old.is_valid n) → IsTrue (new.is_valid n)
  pub same : (n : Node) → IsTrue (old.is_valid n) → new.node_tree n ≡ old.node_tree n
  pub at_hand : (n : Node) → IsTrue (old.at_hand n) → IsTrue (new.at_hand n)

-- the answer of `top`: the root, or nothing where the tree is empty
abbrev pub IsRoot : Standing → Option Node → Type 0
IsRoot s top =
    MatchOption top (s.tree ≡ None) (λ n. IsTrue (s.is_valid n) × (s.tree ≡ Some (s.node_tree n)))

-- a valid node that stands for this tree
pub record StandsFor (s : Standing) (n : Node) (t : Tree) : Type 0 where
  pub valid : IsTrue (s.is_valid n)
  pub tree : s.node_tree n ≡ t

-- the nodes stand for the trees, one for one
abbrev pub Stand : Standing → List Node → List Tree → Type 0
Stand s [] [] = Unit {0}
Stand s (n ∷ ns) (t ∷ ts) = StandsFor s n t × Stand s ns ts
Stand s [] (t ∷ ts) = ⊥
Stand s (n ∷ ns) [] = ⊥

-- the nodes stand for some of the trees, in order
pub data StandIn (s : Standing) : List Node → List Tree → Type 0 where
  nothing : StandIn s [] []
  past : {ns : List Node} {t : Tree} {ts : List Tree} → StandIn s ns ts → StandIn s ns (t ∷ ts)
  at : {n : Node} {ns : List Node} {t : Tree} {ts : List Tree}
      → StandsFor s n t → StandIn s ns ts → StandIn s (n ∷ ns) (t ∷ ts)
