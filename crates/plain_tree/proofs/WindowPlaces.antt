-- Where the children of a node stand.
use Rattle.std.proofs.Common.{ℕ, ◌≡◌, ◌+◌, ◌-◌, ◌<◌, ◌^◌, Some, List, length, drop, get_or, refl, ◌∙◌, ap, arith, length-drop}
use Rattle.std.specs.List.{slice_get}
use Rattle.std.proofs.lemmas.List.{length-take}
use Rattle.std.proofs.lemmas.Option.{get_or_from_slice_get, slice_get_read, slice_get-get_or}
use Rattle.expanded_tree.specs.Tree.{Tree, children_of}
use Rattle.tree_nodes.specs.TreeIn.{no_tree, tree_in}
use Rattle.plain_tree.specs.Windows.{IsParent, end_of, first_of}
use Rattle.tree_nodes.proofs.Elements.{slice_get-drop, slice_get-take}

module _ (trees : List Tree) (bounds : List ℕ) (place : ℕ) (p : IsParent trees bounds place) where
  pub child_count : length (children_of (tree_in trees place)) ≡ end_of bounds place - first_of
      bounds place
  child_count =
      let first = first_of bounds place in
      let end = end_of bounds place in
      ap length p.children
      ∙ length-take (end - first) (drop first trees)
      ∙ omega (arith, length-drop first trees, p.ordered, p.within)

  pub child_within : (i : ℕ) → i < length (children_of (tree_in trees place))
      → first_of bounds place + i < length trees
  child_within i h = omega (arith, h, child_count, p.ordered, p.within)

  pub child_tree : (i : ℕ) → i < length (children_of (tree_in trees place))
      → slice_get (children_of (tree_in trees place)) i
      ≡ Some (tree_in trees (first_of bounds place + i))
  child_tree i h =
      let first = first_of bounds place in
      let end = end_of bounds place in
      ap (λ ts. slice_get ts i) p.children
      ∙ slice_get-take (drop first trees) (end - first) i (omega (arith, h, child_count))
      ∙ slice_get-drop trees first i
      ∙ slice_get-get_or trees (first + i) no_tree (child_within i h)

  pub few_children : end_of bounds place - first_of bounds place < 2 ^ 32
  few_children = omega (arith, child_count, p.few.children)

pub bound_read : (bounds : List ℕ) (place bound : ℕ) → place < length bounds
    → bound ≡ get_or bounds place bound → get_or bounds place 0 ≡ bound
bound_read bounds place bound h e =
    get_or_from_slice_get bounds place bound 0 (slice_get_read bounds (length bounds) place
    bound refl h e)
