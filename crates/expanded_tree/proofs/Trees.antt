-- Trees and lists of trees.
use Rattle.std.proofs.Common.{ℕ, zero, suc, ◌≡◌, ◌<◌, ◌≤◌, Some, List, [], ◌∷◌, refl, ap, arith}
use Rattle.std.specs.List.{slice_get}
use Rattle.expanded_tree.specs.Tree.{Tree, tile, pending, Trees, no_trees, more_trees, list_of, from_list, children_of, tree_size, trees_size}

pub list_of-from_list : (ts : List Tree) → list_of (from_list ts) ≡ ts
list_of-from_list [] = refl
list_of-from_list (t ∷ ts) = ap (λ us. t ∷ us) (list_of-from_list ts)

in_trees : (ts : Trees) (i : ℕ) (u : Tree) → slice_get (list_of ts) i ≡ Some u
    → tree_size u ≤ trees_size ts
in_trees no_trees i u e = cc
in_trees (more_trees t ts) zero u e = let same : t ≡ u = cc in omega (arith, ap tree_size same)
in_trees (more_trees t ts) (suc i) u e = omega (arith, in_trees ts i u e)

-- a child is smaller
pub child_size : (t : Tree) (i : ℕ) (u : Tree) → slice_get (children_of t) i ≡ Some u
    → tree_size u < tree_size t
child_size (tile parts children) i u e = omega (arith, in_trees children i u e)
child_size (pending name facts key) i u e = cc
