use Rattle.engine_state.specs.Loading.{want}
use Rattle.engine_state.proofs.Wanted.{queue_shows}
use Rattle.engine_state.proofs.laws.queue_shows_what_is_takeable.Goals as goal

pub returns : goal.returns
returns c = λ s. queue_shows s (want s)
