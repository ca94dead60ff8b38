use Rattle.view_notes.proofs.KeptByNotes.{views_keep}
use Rattle.view_notes.proofs.laws.notes_tell_what_any_keeps.Goals as goal

pub returns : goal.returns
returns c = λ a ns views holdings root are there. views_keep holdings a there root ns views are
