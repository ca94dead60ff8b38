use Rattle.std.proofs.Common.{◌↔◌, ◌≡◌, true, Ok, IsTrue, [], ◌∷◌, ◌++◌, ◌∙◌, ap, subst, sym, length}
use Rattle.doc_store.specs.Docs.{is_unread}
use Rattle.doc_store.specs.Store.{IsDocumentKind, IsFull, docs, with_document}
use Rattle.doc_store.specs.declared.added.Added.TheVariants as Added
use Rattle.engine_state.specs.declared.entry.Entry.TheVariants.{DocumentArrived}
use Rattle.engine_state.specs.declared.gone.Gone.TheVariants.{StoreFull}
use Rattle.engine_state.specs.Allowed.{may_be_gone}
use Rattle.engine_core.specs.Mirrors.{state_of}
use Rattle.engine_core.proofs.Documents.{document_lives, may_be_full, no_room, noted_document, noted_full, same_store, some_room}
use Rattle.engine_core.proofs.Endings.{store_docs, to_load}
use Rattle.engine_core.proofs.parts.Parts.arrive_document.Goals as goal

pub add-requires-clause-document : goal.add-requires-clause-document
add-requires-clause-document c =
    let p = c.args.self.now in
    let key = c.args.key.now in
    subst (λ k. IsDocumentKind k.kind) (sym c.in_ok-loaded.ensures.value)
    (c.what_is_to_load_is_missing.ensures.document (state_of p) key
    (to_load p c.args.pass key c.what_flies_is_to_load.ensures.to_load c.requires.lives
    c.requires.flies) c.requires.document)

pub add-requires-clause-unread : goal.add-requires-clause-unread
add-requires-clause-unread c =
    let p = c.args.self.now in
    let key = c.args.key.now in
    subst (λ k. IsTrue (is_unread (docs p.arena.store) k)) (sym c.in_ok-loaded.ensures.value)
    (subst (λ d. IsTrue (is_unread d key)) (store_docs p c.requires.lives)
    (c.what_is_to_load_is_missing.ensures.unread (state_of p) key
    (to_load p c.args.pass key c.what_flies_is_to_load.ensures.to_load c.requires.lives
    c.requires.flies) c.requires.document))

pub returns-in-Kept-clause-lives : goal.returns-in-Kept-clause-lives
returns-in-Kept-clause-lives c =
    let p = c.args.self.now in
    let key = c.args.key.now in
    let bytes = c.args.bytes.now in
    let kept : c.add.result ≡ Ok Added.Kept = c.in_ok-add.was ∙ ap Ok c.in-Kept.is in
    let full : (c.add.result ≡ Ok Added.Full) ↔ IsFull p.arena.store (length bytes) =
    subst (λ b. (c.add.result ≡ Ok Added.Full) ↔ IsFull p.arena.store (length b))
    c.in_ok-stored.ensures c.add.ensures.full in
    document_lives p _ _ c.add.new.self c.args.pass key bytes c.requires.lives c.requires.flies
    c.requires.document (some_room p bytes c.add.result c.requires.lives kept full)
    (c.push_reserved.ensures.items
    ∙ ap (λ k. p.entries.items ++ DocumentArrived c.args.pass k c.in_ok-kept.kept ∷ [])
    c.in_ok-noted.ensures.value
    ∙ ap (λ b. p.entries.items ++ DocumentArrived c.args.pass key b ∷ []) c.in_ok-kept.ensures)
    c.push_reserved.ensures.room c.end_flight.ensures.flying
    (c.add.ensures.kept kept
    ∙ ap (λ k. with_document p.arena.store k c.in_ok-stored.stored) c.in_ok-loaded.ensures.value
    ∙ ap (with_document p.arena.store key) c.in_ok-stored.ensures)

pub returns-in-Kept-clause-journal : goal.returns-in-Kept-clause-journal
returns-in-Kept-clause-journal c =
    let p = c.args.self.now in
    let key = c.args.key.now in
    let bytes = c.args.bytes.now in
    let kept : c.add.result ≡ Ok Added.Kept = c.in_ok-add.was ∙ ap Ok c.in-Kept.is in
    let full : (c.add.result ≡ Ok Added.Full) ↔ IsFull p.arena.store (length bytes) =
    subst (λ b. (c.add.result ≡ Ok Added.Full) ↔ IsFull p.arena.store (length b))
    c.in_ok-stored.ensures c.add.ensures.full in
    c.push_reserved.ensures.items
    ∙ ap (λ e. p.entries.items ++ e ∷ [])
    (noted_document p c.args.pass key c.in_ok-noted.noted bytes c.in_ok-kept.kept
    (some_room p bytes c.add.result c.requires.lives kept full)
    c.in_ok-noted.ensures.value c.in_ok-kept.ensures)

pub add_absent-requires-clause-lives : goal.add_absent-requires-clause-lives
add_absent-requires-clause-lives c =
    let full : c.add.result ≡ Ok Added.Full = c.in_ok-add.was ∙ ap Ok c.in-Full.is in
    let other : c.add.result ≡ Ok Added.Kept → ⊥ =
    λ kept. let both : Ok Added.Kept ≡ Ok Added.Full = sym kept ∙ full in cc in
    same_store c.args.self.now c.add.new.self c.requires.lives (c.add.ensures.unchanged other)

pub add_absent-requires-clause-gone : goal.add_absent-requires-clause-gone
add_absent-requires-clause-gone c =
    let p = c.args.self.now in
    let bytes = c.args.bytes.now in
    let is : c.add.result ≡ Ok Added.Full = c.in_ok-add.was ∙ ap Ok c.in-Full.is in
    let full : (c.add.result ≡ Ok Added.Full) ↔ IsFull p.arena.store (length bytes) =
    subst (λ b. (c.add.result ≡ Ok Added.Full) ↔ IsFull p.arena.store (length b))
    c.in_ok-stored.ensures c.add.ensures.full in
    subst (λ k. may_be_gone (state_of p) k StoreFull ≡ true) (sym c.in_ok-noted.ensures.value)
    (may_be_full p c.args.key.now bytes c.requires.document c.requires.within
    (no_room p bytes c.add.result c.requires.lives is full))

pub returns-in-Full-clause-journal : goal.returns-in-Full-clause-journal
returns-in-Full-clause-journal c =
    let p = c.args.self.now in
    let bytes = c.args.bytes.now in
    let is : c.add.result ≡ Ok Added.Full = c.in_ok-add.was ∙ ap Ok c.in-Full.is in
    let full : (c.add.result ≡ Ok Added.Full) ↔ IsFull p.arena.store (length bytes) =
    subst (λ b. (c.add.result ≡ Ok Added.Full) ↔ IsFull p.arena.store (length b))
    c.in_ok-stored.ensures c.add.ensures.full in
    c.add_absent.ensures.journal
    ∙ ap (λ e. p.entries.items ++ e ∷ [])
    (noted_full p c.args.pass c.args.key.now c.in_ok-noted.noted bytes
    (no_room p bytes c.add.result c.requires.lives is full) c.in_ok-noted.ensures.value)
