use Rattle.std.proofs.Common.{◌≡◌, ◌∙◌, ap, sym, ◌∷◌, ◌++◌, []}
use Rattle.indexmap.specs.IndexSet.{spare}
use Rattle.indexmap.proofs.CallerLemmas.{insert_entry-new}
use Rattle.tile_types.specs.contracts.key.KeyPartialEq.TheImpl.{eq-value}
use Rattle.doc_store.specs.Kept.{Entry}
use Rattle.doc_store.proofs.Keys.{eq_is_same}
use Rattle.doc_store.proofs.Adding.{added_view, kept_after, no_entry_yet}
use Rattle.doc_store.proofs.store.DocStore.add.Goals as goal

pub invariant_of-self-2 : goal.invariant_of-self-2
invariant_of-self-2 c =
    let s = c.self.inside in
    let unread = rw (← c.self.view_is) at c.requires.unread in
    let new : Entry =
    (c.args.key, record { bytes = c.args.bytes; reading = c.in_ok-reading.reading }) in
    let entries : c.insert.new.self.entries ≡ s.documents.entries ++ new ∷ [] =
    c.in_ok-insert.ensures.entries
    ∙ insert_entry-new eq-value.it s.documents new.0 new.1
    (no_entry_yet s.documents.entries s.absent.keys c.args.key (eq-value.it c.args.key)
    (eq_is_same c.args.key) unread) in
    rw (entries, c.len-length.ensures.value)
    (kept_after s.documents.entries c.args.self.now s.absent.keys s.total new
    c.is_full.result c.self.invariant (ap (λ v. v.loaded) (sym c.self.view_is)) unread
    c.in_ok-reading.ensures (rw c.len.ensures.value at c.is_full.ensures.1) c.if-is_full.false)

pub returns-clause-kept : goal.returns-clause-kept
returns-clause-kept c e =
    let s = c.self.inside in
    let unread = rw (← c.self.view_is) at c.requires.unread in
    let new : Entry =
    (c.args.key, record { bytes = c.args.bytes; reading = c.in_ok-reading.reading }) in
    let entries : c.insert.new.self.entries ≡ s.documents.entries ++ new ∷ [] =
    c.in_ok-insert.ensures.entries
    ∙ insert_entry-new eq-value.it s.documents new.0 new.1
    (no_entry_yet s.documents.entries s.absent.keys c.args.key (eq-value.it c.args.key)
    (eq_is_same c.args.key) unread) in
    added_view s.documents.entries c.insert.new.self.entries s.absent.keys (spare s.absent) new
    entries c.args.self.now c.self.view_is
