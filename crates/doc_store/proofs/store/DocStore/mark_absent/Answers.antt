use Rattle.std.proofs.Common.{◌≡◌, ◌∙◌, ◌++◌, ◌∷◌, []}
use Rattle.tile_types.specs.contracts.key.KeyPartialEq.TheImpl.{eq-value}
use Rattle.doc_store.proofs.Keys.{eq_is_same}
use Rattle.doc_store.proofs.Adding.{are_kept_without, marked}
use Rattle.doc_store.proofs.store.DocStore.mark_absent.Goals as goal

pub invariant_of-self : goal.invariant_of-self
invariant_of-self c =
    let s = c.self.inside in
    let unread = rw (← c.self.view_is) at c.requires.unread in
    let keys : c.insert.new.self.keys ≡ s.absent.keys ++ c.args.key ∷ [] =
    c.in-Ok.ensures.keys
    ∙ marked eq-value.it eq_is_same s.documents.entries s.absent.keys c.args.key unread in
    rw keys
    (are_kept_without s.documents.entries s.absent.keys s.total c.args.key c.self.invariant unread)

pub returns-clause-gone : goal.returns-clause-gone
returns-clause-gone c =
    let s = c.self.inside in
    let unread = rw (← c.self.view_is) at c.requires.unread in
    rw (← c.self.view_is)
    (c.in-Ok.ensures.keys
    ∙ marked eq-value.it eq_is_same s.documents.entries s.absent.keys c.args.key unread)
