use Rattle.engine_state.proofs.Steps.{opened_first, opened_once}
use Rattle.engine_state.proofs.laws.first_entry_opens.Goals as goal

pub returns : goal.returns
returns c = record { opened = opened_first; once = opened_once }
