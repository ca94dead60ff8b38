-- Where the children of nodes stand.
use Rattle.std.specs.Prelude.{ℕ, ◌≡◌, ◌≤◌, ◌<◌, ◌+◌, Bool, IsTrue, false, List, [], ◌∷◌, length, take, drop, slice_index_or}
use Rattle.expanded_tree.specs.Tree.{Tree, children_of}
use Rattle.tree_nodes.specs.TreeIn.{tree_in}
use Rattle.tile_arena.specs.declared.children.Children.{Children}

-- of a node that wasn't opened
abbrev pub closed : Children
closed = record { at_hand = false; first = 0; count = 0 }

-- what is known of the children of the node at a place
abbrev pub children_at : List Children → ℕ → Children
children_at all place = slice_index_or all place closed

-- they are at hand
abbrev pub is_at_hand : List Children → ℕ → Bool
is_at_hand all place = (children_at all place).at_hand

-- the children of the node at a place stand side by side
pub record AreChildren (trees : List Tree) (place : ℕ) (c : Children) : Type 0 where
  pub there : place < length trees
  pub within : c.first + c.count ≤ length trees
  pub children : children_of (tree_in trees place) ≡ take c.count (drop c.first trees)

-- so do those of every node whose children are at hand
abbrev pub AreAtHand : List Tree → List Children → Type 0
AreAtHand trees all = (place : ℕ) → IsTrue (is_at_hand all place)
    → AreChildren trees place (children_at all place)

-- how many children trees have
abbrev pub child_count : List Tree → ℕ
child_count [] = 0
child_count (t ∷ ts) = length (children_of t) + child_count ts
