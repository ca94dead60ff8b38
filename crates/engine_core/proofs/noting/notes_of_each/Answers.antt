use Rattle.std.proofs.Common.{◌∙◌, subst}
use Rattle.tree_nodes.specs.Trees.{stored_tree}
use Rattle.view_notes.specs.Follows.{AreNotesOf}
use Rattle.engine_core.specs.Holding.{holdings_of}
use Rattle.engine_core.proofs.ViewsNoted.{noted_next}
use Rattle.engine_core.proofs.noting.notes_of_each.Goals as goal

pub loop-seen-preserved : goal.loop-seen-preserved
loop-seen-preserved c =
    let here = holdings_of c.args.contents.now.cache.now.residents
    c.args.contents.now.absent.now.keys in
    let root = stored_tree c.args.arena.now.store in
    record {
      store = c.notes_of.ensures.store ∙ c.loop-seen.invariant.store;
      notes = noted_next here root c.loop-seen.notes.items _ c.args.views.now
          c.loop-seen.seen-index c.in_ok-notes_of.field-0 c.seen-item.result c.loop-seen-test.true
          c.seen-item.is c.loop-seen.invariant.notes
          (subst (λ store. AreNotesOf c.in_ok-notes_of.field-0 c.seen-item.result.view here
          (stored_tree store)) c.loop-seen.invariant.store c.in_ok-notes_of.ensures.notes)
          c.in_ok-push.ensures.items;
    }
