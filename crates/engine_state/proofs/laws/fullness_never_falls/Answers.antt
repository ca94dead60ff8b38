use Rattle.engine_state.proofs.Steps.{fullness_rises}
use Rattle.engine_state.proofs.laws.fullness_never_falls.Goals as goal

pub returns : goal.returns
returns c = fullness_rises
