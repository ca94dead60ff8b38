use Rattle.std.proofs.Common.{◌∙◌}
use Rattle.std.proofs.lemmas.List.{with_items_is}
use Rattle.view_notes.proofs.NotedFollow.{noted_follow, noted_leaves}
use Rattle.view_notes.proofs.view_notes.ViewNotes.follow.Goals as goal

pub returns-clause-notes : goal.returns-clause-notes
returns-clause-notes g c =
    rw (
      with_items_is c.self.inside.notes c.follow.new.notes
          (c.follow.auto.notes ∙ c.deref_mut.ensures.len),
      ← c.self.view_is,
    )
    (noted_follow c.args.change c.args.address.now c.users.result.now _ c.follow.new.notes
    c.users.ensures.users (rw c.deref_mut.ensures.value at c.follow.ensures.follows))

pub returns-clause-leaving : goal.returns-clause-leaving
returns-clause-leaving g c = λ adds.
    rw (← c.self.view_is)
    (noted_leaves c.args.change c.args.address.now c.users.result.now _ c.follow.new.notes
    (g.A.Awaited.awaited c.args.awaited.now) c.follow.result
    c.users.ensures.users (rw c.deref_mut.ensures.value at c.follow.ensures.follows)
    (rw c.deref_mut.ensures.value at c.follow.ensures.answer adds))
