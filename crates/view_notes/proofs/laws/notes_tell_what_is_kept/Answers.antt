use Rattle.view_notes.proofs.Keeping.{root_kept}
use Rattle.view_notes.proofs.laws.notes_tell_what_is_kept.Goals as goal

pub returns : goal.returns
returns c = λ a users view holdings root ns e uses there.
    root_kept view holdings a users there root ns e uses
