use Rattle.engine_state.specs.Journal.{replay}
use Rattle.engine_state.proofs.Lines.{frame_is_cut}
use Rattle.engine_state.proofs.laws.frames_are_cuts.Goals as goal

pub returns : goal.returns
returns c = λ before view. frame_is_cut (replay before) view
