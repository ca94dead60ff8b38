use Rattle.view_notes.proofs.TreeNotes.{root_agrees}
use Rattle.view_notes.proofs.laws.notes_agree.Goals as goal

pub returns : goal.returns
returns c = λ view holdings root. root_agrees view holdings root
