-- Which node each visited node is a child of.
use Rattle.std.specs.Prelude.{ℕ, ◌+◌, Option, Some, None, List, [], ◌∷◌, ◌++◌, if◌then◌else◌, length}
use Rattle.error_test.specs.Views.{ViewParts}
use Rattle.expanded_tree.specs.Tree.{Tree, tile, pending, Trees, no_trees, more_trees}
use Rattle.cut_core.specs.Cut.{from_root, is_culled, wants}
use Rattle.cut_core.specs.Visits.{unless_too_many}

-- a node, and the number of its parent among the visited nodes
pub record Linked : Type 0 where
  pub parent : Option ℕ
  pub tree : Tree

abbrev pub linked : Option ℕ → Tree → Linked
linked parent t = record { parent = parent; tree = t }

-- the visited nodes in preorder, the first of which has this parent and this number
abbrev mutual
  pub linked_nodes : ViewParts → Option ℕ → ℕ → Tree → List Linked
  linked_nodes view parent at (pending name facts key) =
      let t = pending name facts key in
      if is_culled view t then [] else linked parent t ∷ []
  linked_nodes view parent at (tile parts children) =
      let t = tile parts children in
      if is_culled view t then []
      else if wants view t then
      linked parent t ∷ all_linked_nodes view (Some at) (at + 1) children
      else linked parent t ∷ []

  pub all_linked_nodes : ViewParts → Option ℕ → ℕ → Trees → List Linked
  all_linked_nodes view parent at no_trees = []
  all_linked_nodes view parent at (more_trees t ts) =
      let first = linked_nodes view parent at t in
      first ++ all_linked_nodes view parent (at + length first) ts

-- the noted nodes of a whole tree
abbrev pub linked_visits : ViewParts → Option Tree → List Linked
linked_visits view root = unless_too_many view root (from_root (linked_nodes view None 0) root)
