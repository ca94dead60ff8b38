use Rattle.implicit_walk.proofs.tests.contents.contents_of_tiles.Given as goal

abbrev pub ghosts-check_rows : goal.ghosts-check_rows
ghosts-check_rows g a = record { name = a.blank.name; parts = a.blank.parts }
