-- How many nodes trees have.
use Rattle.std.proofs.Common.{ℕ, ◌≡◌, ◌+◌, ◌≤◌, List, [], ◌∷◌, ◌++◌, length, refl, ap, arith}
use Rattle.expanded_tree.specs.Tree.{Tree, Trees, tile, pending, no_trees, more_trees, list_of, children_of, tree_size, trees_size}

abbrev pub sizes : List Tree → ℕ
sizes [] = 0
sizes (t ∷ ts) = tree_size t + sizes ts

pub sizes-append : (ts us : List Tree) → sizes (ts ++ us) ≡ sizes ts + sizes us
sizes-append [] us = omega arith
sizes-append (t ∷ ts) us = omega (arith, sizes-append ts us)

pub size_some : (t : Tree) → 1 ≤ tree_size t
size_some (tile parts children) = omega arith
size_some (pending name facts key) = omega arith

pub length_le-sizes : (ts : List Tree) → length ts ≤ sizes ts
length_le-sizes [] = omega arith
length_le-sizes (t ∷ ts) = omega (arith, size_some t, length_le-sizes ts)

trees_size-list : (ts : Trees) → trees_size ts ≡ sizes (list_of ts)
trees_size-list no_trees = refl
trees_size-list (more_trees t ts) = ap (λ n. tree_size t + n) (trees_size-list ts)

-- a tree has its root and the nodes of its children
pub size-children : (t : Tree) → tree_size t ≡ sizes (children_of t) + 1
size-children (tile parts children) = ap (λ n. n + 1) (trees_size-list children)
size-children (pending name facts key) = refl
