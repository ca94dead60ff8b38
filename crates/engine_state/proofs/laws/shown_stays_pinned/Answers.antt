use Rattle.engine_state.specs.Journal.{replay}
use Rattle.engine_state.proofs.Pinning.{shown_there}
use Rattle.engine_state.proofs.Steps.{pinned_along}
use Rattle.engine_state.proofs.laws.shown_stays_pinned.Goals as goal

pub returns : goal.returns
returns c = λ before rest e. shown_there (replay before) (pinned_along before rest e)
