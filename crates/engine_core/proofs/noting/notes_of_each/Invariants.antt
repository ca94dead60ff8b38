use Rattle.std.proofs.Common.{◌≡◌, map, take}
use Rattle.tree_nodes.specs.Trees.{stored_tree}
use Rattle.view_notes.specs.Asking.{AreNotesOfEach}
use Rattle.engine_core.specs.Holding.{holdings_of}
use Rattle.engine_core.proofs.noting.notes_of_each.Given as goal

-- the notes of the views before this one stand there, and the store is as it was
abbrev pub invariant-loop-seen : goal.invariant-loop-seen
invariant-loop-seen l = record {
  store : l.arena.store ≡ l.fn.arena.store;
  notes : AreNotesOfEach l.notes.items (map (λ seen. seen.view) (take l.seen-index l.views))
      (holdings_of l.contents.cache.now.residents l.contents.absent.now.keys)
      (stored_tree l.fn.arena.store);
}
