-- Which nodes are named by their parents.
use Rattle.std.specs.Prelude.{ℕ, ◌≡◌, ◌<◌, Bool, true, false, Some, slice_get}
use Rattle.tree_nodes.specs.declared.node.NodeSource.{NodeSource}
use Rattle.tree_nodes.specs.declared.node.NodeSource.TheVariants.{Tile, Pending, Implicit}
use Rattle.tree_nodes.specs.declared.node.TreeNode.{TreeNode}
use Rattle.tree_nodes.specs.declared.node_list.NodeList.{NodeList}

-- all but those below implicit roots
abbrev pub has_number : NodeSource → Bool
has_number (Tile document tile) = true
has_number (Pending waiting) = true
has_number (Implicit place) = false

-- the node at a place is named by its parent and its number
pub record IsNumbered (list : NodeList) (place : ℕ) : Type 0 where
  pub below : 0 < place
  pub numbered : (n : TreeNode) → slice_get list.nodes.items place ≡ Some n
      → has_number n.source ≡ true

-- it is the root, or isn't named so
abbrev pub StartsName : NodeList → ℕ → Type 0
StartsName list place =
    0 < place → (n : TreeNode) → slice_get list.nodes.items place ≡ Some n
    → has_number n.source ≡ false
