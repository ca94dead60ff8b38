-- Where the children of nodes stand.
use Rattle.std.specs.Prelude.{ℕ, ◌≡◌, ◌≤◌, ◌<◌, ◌+◌, ◌-◌, List, length, take, drop, slice_index}
use Rattle.expanded_tree.specs.Tree.{Tree, children_of}
use Rattle.tree_nodes.specs.Growth.{HasFew}
use Rattle.tree_nodes.specs.TreeIn.{tree_in}

-- where the children of the node at a place begin and end
abbrev pub first_of : List ℕ → ℕ → ℕ
first_of bounds place = slice_index bounds place

abbrev pub end_of : List ℕ → ℕ → ℕ
end_of bounds place = slice_index bounds (place + 1)

-- the trees from one place up to another
abbrev pub window : List Tree → ℕ → ℕ → List Tree
window trees first end = take (end - first) (drop first trees)

-- the node's children stand side by side between two bounds
pub record IsParent (trees : List Tree) (bounds : List ℕ) (place : ℕ) : Type 0 where
  pub there : place + 1 < length bounds
  pub ordered : first_of bounds place ≤ end_of bounds place
  pub within : end_of bounds place ≤ length trees
  pub few : HasFew (tree_in trees place)
  pub children : children_of (tree_in trees place) ≡ window trees (first_of bounds place)
      (end_of bounds place)

abbrev pub AreParents : List Tree → List ℕ → Type 0
AreParents trees bounds = (place : ℕ) → place < length trees → IsParent trees bounds place
