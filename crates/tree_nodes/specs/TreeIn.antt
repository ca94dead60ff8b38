-- Trees by the places of their nodes.
use Rattle.std.specs.Prelude.{ℕ, false, None, List, [], slice_index_or}
use Rattle.tile_types.specs.declared.refine.Refine.TheVariants.{Replace}
use Rattle.expanded_tree.specs.Tree.{Tree, explicit_tile, no_trees}

-- what stands for no node
abbrev pub no_tree : Tree
no_tree =
    explicit_tile []
    (record { volume = None; request = None; error = 0; refine = Replace; external = false })
    [] no_trees

abbrev pub tree_in : List Tree → ℕ → Tree
tree_in trees place = slice_index_or trees place no_tree
