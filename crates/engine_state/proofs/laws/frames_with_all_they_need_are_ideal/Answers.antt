use Rattle.std.proofs.Common.{◌∙◌}
use Rattle.cut_core.proofs.Settling.{cut_is_ideal}
use Rattle.engine_state.specs.Frames.{holdings, tree}
use Rattle.engine_state.specs.Journal.{replay}
use Rattle.engine_state.proofs.Lines.{frame_is_cut}
use Rattle.engine_state.proofs.laws.frames_with_all_they_need_are_ideal.Goals as goal

pub returns : goal.returns
returns c = λ before view loaded has. frame_is_cut (replay before) view
    ∙ cut_is_ideal view (holdings (replay before)) (tree (replay before)) loaded has
