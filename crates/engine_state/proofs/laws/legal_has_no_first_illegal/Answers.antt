use Rattle.engine_state.specs.State.{unopened}
use Rattle.engine_state.proofs.Steps.{none_illegal}
use Rattle.engine_state.proofs.laws.legal_has_no_first_illegal.Goals as goal

pub returns : goal.returns
returns c = none_illegal 1 unopened
