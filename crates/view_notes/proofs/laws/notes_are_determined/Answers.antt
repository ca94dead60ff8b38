use Rattle.view_notes.proofs.TreeNotes.{unique}
use Rattle.view_notes.proofs.laws.notes_are_determined.Goals as goal

pub returns : goal.returns
returns c = λ ns ms same h k. unique ns ms same h k
