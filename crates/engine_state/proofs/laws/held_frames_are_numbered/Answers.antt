use Rattle.engine_state.specs.Journal.{replay}
use Rattle.engine_state.proofs.Numbers.{are_numbered}
use Rattle.engine_state.proofs.Steps.{numbers_along}
use Rattle.engine_state.proofs.laws.held_frames_are_numbered.Goals as goal

pub returns : goal.returns
returns c = λ before rest e. are_numbered (replay before) (numbers_along before rest e)
