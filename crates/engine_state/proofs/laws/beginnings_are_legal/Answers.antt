use Rattle.engine_state.specs.State.{unopened}
use Rattle.engine_state.proofs.Steps.{allowed_before}
use Rattle.engine_state.proofs.laws.beginnings_are_legal.Goals as goal

pub returns : goal.returns
returns c = allowed_before unopened
