use Rattle.doc_store.proofs.Numbered.{named_subtree, numbered_counts}
use Rattle.doc_store.proofs.store.DocStore.subtree_at.Goals as goal

pub returns-clause-named : goal.returns-clause-named
returns-clause-named c =
    named_subtree c.args.self.now c.args.number c.in_ok-numbered.field-0.now c.in_ok-numbered.ensures
    c.subtree.result c.subtree.ensures

pub returns-clause-counts : goal.returns-clause-counts
returns-clause-counts c =
    numbered_counts c.args.self.now c.args.number c.in_ok-numbered.field-0.now c.in_ok-numbered.ensures
    c.subtree.result c.subtree.ensures
