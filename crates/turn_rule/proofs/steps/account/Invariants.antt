use Rattle.turn_rule.specs.Journal.{entries_of}
use Rattle.turn_rule.proofs.steps.account.Given as goal

abbrev pub ghosts-count_entry : goal.ghosts-count_entry
ghosts-count_entry g a =
    let k = g.K.Kept in
    let log = k.journal a.state.now in
    record { log = log; own = entries_of k.names a.number log }
