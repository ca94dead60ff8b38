use Rattle.engine_state.specs.Journal.{replay}
use Rattle.engine_state.proofs.Numbers.{increasing}
use Rattle.engine_state.proofs.Viewers.{viewers_of}
use Rattle.engine_state.proofs.Steps.{viewers_along}
use Rattle.engine_state.proofs.laws.views_are_numbered.Goals as goal

pub returns : goal.returns
returns c = λ before rest e. increasing (viewers_of (replay before).views)
    (viewers_along before rest e)
