use Rattle.view_notes.proofs.TreesFollow.{notes_follow}
use Rattle.view_notes.proofs.laws.notes_follow.Goals as goal

pub returns : goal.returns
returns c = λ change a users view old new root ns ms e uses happens follows.
    notes_follow change a users view old new happens root ns ms e uses follows
