use Rattle.view_notes.proofs.KeptByNotes.{noted_keeps}
use Rattle.view_notes.proofs.NotedFollow.{noted_kept}
use Rattle.view_notes.proofs.view_notes.ViewNotes.keeps.Goals as goal

pub returns-clause-kept : goal.returns-clause-kept
returns-clause-kept c =
    rw (← c.self.view_is)
    (noted_kept c.args.address.now c.users.result.now _ c.keeps.result
    c.users.ensures.users (rw c.deref.ensures.value at c.keeps.ensures))

pub returns-clause-noted : goal.returns-clause-noted
returns-clause-noted c =
    rw (← c.self.view_is)
    (noted_keeps c.args.address.now c.users.result.now c.self.inside.notes.items
    c.self.inside.index c.keeps.result c.self.invariant.named
    c.users.ensures.users (rw c.deref.ensures.value at c.keeps.ensures))
