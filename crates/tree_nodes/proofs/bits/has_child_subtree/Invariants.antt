use Rattle.tree_nodes.proofs.bits.has_child_subtree.Given as goal

abbrev pub ghosts-count_child_subtree : goal.ghosts-count_child_subtree
ghosts-count_child_subtree a = record { name = a.blank.name; parts = a.blank.parts }
