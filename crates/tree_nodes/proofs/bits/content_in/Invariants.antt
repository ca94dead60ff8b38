use Rattle.tree_nodes.proofs.bits.content_in.Given as goal

abbrev pub ghosts-count_content : goal.ghosts-count_content
ghosts-count_content a = record { name = a.blank.name; parts = a.blank.parts }
