use Rattle.std.proofs.Common.{map, subst}
use Rattle.tree_nodes.specs.Trees.{stored_tree}
use Rattle.view_notes.specs.Asking.{AreNotesOfEach}
use Rattle.engine_core.specs.Holding.{holdings_of}
use Rattle.engine_core.proofs.ViewsNoted.{noted_lives}
use Rattle.engine_core.proofs.parts.Parts.note.Goals as goal

pub returns-clause-lives : goal.returns-clause-lives
returns-clause-lives c =
    let p = c.args.self.now in
    noted_lives p c.notes_of_each.new.arena c.in_ok-self.field-0 c.requires
    c.notes_of_each.ensures.store
    (subst (λ views. AreNotesOfEach c.in_ok-self.field-0.items (map (λ seen. seen.view) views)
    (holdings_of p.cache.residents p.absent.keys) (stored_tree p.arena.store))
    c.deref.ensures.value c.in_ok-self.ensures.notes)
