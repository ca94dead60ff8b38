use Rattle.std.proofs.Common.{refl, arith}
use Rattle.tree_nodes.proofs.Fronts.{IsFront-is, IsFront-more, more_waiting}
use Rattle.tree_nodes.proofs.MadeEntries.{awaited_made}
use Rattle.tree_nodes.proofs.tables.Tables.make_awaited.Goals as goal

pub returns-clause-made : goal.returns-clause-made
returns-clause-made c =
    let old = c.args.self.now in
    let more = c.in_ok-push.ensures.items in
    awaited_made c.args.store.now old _ c.args.top c.args.at
    (record { key = c.args.key; error = c.error_at-error.result }) c.requires
    (more_waiting old _ refl (IsFront-more _ _ _ more)) refl more c.in_ok-waiting.waiting
    (omega (arith, c.in_ok-waiting.ensures, c.len.ensures, old.waiting.ok.0))

pub returns-in_err-push-clause-continues : goal.returns-in_err-push-clause-continues
returns-in_err-push-clause-continues c =
    more_waiting c.args.self.now _ refl (IsFront-is _ _ c.in_err-push.ensures.items)

pub returns-clause-continues : goal.returns-clause-continues
returns-clause-continues c =
    more_waiting c.args.self.now _ refl (IsFront-more _ _ _ c.in_ok-push.ensures.items)
