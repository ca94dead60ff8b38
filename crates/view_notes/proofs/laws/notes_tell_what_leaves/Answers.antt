use Rattle.view_notes.proofs.Keeping.{root_leaves}
use Rattle.view_notes.proofs.laws.notes_tell_what_leaves.Goals as goal

pub returns : goal.returns
returns c = λ lacking contents view old new root ns ms e f lacks.
    root_leaves lacking contents view old new root ns ms e f lacks
