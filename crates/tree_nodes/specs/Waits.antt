-- How many nodes of a tree wait for a document.
use Rattle.std.specs.Prelude.{ℕ, ◌+◌, Option, Some, None, List, [], ◌∷◌}
use Rattle.expanded_tree.specs.Tree.{Tree, Trees, tile, pending, no_trees, more_trees}

abbrev mutual
  pub pending_count : Tree → ℕ
  pending_count (tile parts children) = pending_counts children
  pending_count (pending name facts key) = 1

  pub pending_counts : Trees → ℕ
  pending_counts no_trees = 0
  pending_counts (more_trees t ts) = pending_count t + pending_counts ts

-- of a whole tree
abbrev pub waits_in : Option Tree → ℕ
waits_in None = 0
waits_in (Some t) = pending_count t

-- whether the topmost node waits, as a number
abbrev pub top_waits : Tree → ℕ
top_waits (tile parts children) = 0
top_waits (pending name facts key) = 1

-- of how many trees it does
abbrev pub tops_wait : List Tree → ℕ
tops_wait [] = 0
tops_wait (t ∷ ts) = top_waits t + tops_wait ts
