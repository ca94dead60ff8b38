use Rattle.engine_state.proofs.Steps.{printed_as_reported}
use Rattle.engine_state.proofs.laws.frames_are_printed_as_reported.Goals as goal

pub returns : goal.returns
returns c = λ s frame pass settled e. printed_as_reported s frame pass settled e
