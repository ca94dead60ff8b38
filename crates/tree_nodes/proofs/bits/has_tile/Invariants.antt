use Rattle.tree_nodes.proofs.bits.has_tile.Given as goal

abbrev pub ghosts-count_tile : goal.ghosts-count_tile
ghosts-count_tile a = record { name = a.blank.name; parts = a.blank.parts }
