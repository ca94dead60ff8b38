use Rattle.std.proofs.Common.{◌∙◌}
use Rattle.engine_state.specs.State.{docs}
use Rattle.engine_state.specs.Frames.{holdings, tree}
use Rattle.engine_state.specs.Journal.{replay}
use Rattle.engine_state.proofs.laws.frames_are_the_librarys_cuts.Goals as goal

pub returns : goal.returns
unfolding tree
returns c = λ library before a u view loaded leaves.
    c.frames_are_cuts.ensures before view
    ∙ c.cut_is_the_librarys.ensures.cut library (docs (replay before))
    (c.documents_are_the_librarys.ensures.docs library before a u) (replay before).root view loaded
    leaves (holdings (replay before))
