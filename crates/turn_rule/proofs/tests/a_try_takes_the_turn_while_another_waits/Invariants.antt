use Rattle.turn_rule.proofs.tests.a_try_takes_the_turn_while_another_waits.Given as goal

abbrev pub ghosts-one_waits : goal.ghosts-one_waits
ghosts-one_waits g a = record { name = a.blank.name; parts = a.blank.parts }
