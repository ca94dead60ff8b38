use Rattle.avail_bits.proofs.tests.constants.Given as goal

abbrev pub ghosts-are : goal.ghosts-are
ghosts-are g a = record { name = a.blank.name; parts = a.blank.parts }
