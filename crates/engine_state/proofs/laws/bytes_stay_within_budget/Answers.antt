use Rattle.engine_state.proofs.Steps.{within_along}
use Rattle.engine_state.proofs.laws.bytes_stay_within_budget.Goals as goal

pub returns : goal.returns
returns c = within_along
