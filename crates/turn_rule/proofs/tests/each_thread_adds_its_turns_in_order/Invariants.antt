use Rattle.turn_rule.proofs.tests.each_thread_adds_its_turns_in_order.Given as goal

abbrev pub ghosts-journal : goal.ghosts-journal
ghosts-journal g a = record { name = a.blank.name; parts = a.blank.parts }
