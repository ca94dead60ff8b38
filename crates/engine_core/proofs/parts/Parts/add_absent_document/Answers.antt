use Rattle.std.proofs.Common.{IsTrue, [], ◌∷◌, ◌++◌, ◌∙◌, ap, subst, sym}
use Rattle.doc_store.specs.Docs.{is_unread}
use Rattle.doc_store.specs.Store.{IsDocumentKind, docs}
use Rattle.engine_core.specs.Mirrors.{state_of}
use Rattle.engine_core.proofs.Endings.{absent_document_lives, store_docs, to_load}
use Rattle.engine_core.proofs.parts.Parts.add_absent_document.Goals as goal

pub mark_absent-requires-clause-document : goal.mark_absent-requires-clause-document
mark_absent-requires-clause-document c =
    let p = c.args.self.now in
    let key = c.args.key in
    subst (λ k. IsDocumentKind k.kind) (sym c.end_flight-flown.ensures.key)
    (c.what_is_to_load_is_missing.ensures.document (state_of p) key
    (to_load p c.args.pass key c.what_flies_is_to_load.ensures.to_load c.requires.lives
    c.requires.flies) c.requires.document)

pub mark_absent-requires-clause-unread : goal.mark_absent-requires-clause-unread
mark_absent-requires-clause-unread c =
    let p = c.args.self.now in
    let key = c.args.key in
    subst (λ k. IsTrue (is_unread (docs p.arena.store) k)) (sym c.end_flight-flown.ensures.key)
    (subst (λ d. IsTrue (is_unread d key)) (store_docs p c.requires.lives)
    (c.what_is_to_load_is_missing.ensures.unread (state_of p) key
    (to_load p c.args.pass key c.what_flies_is_to_load.ensures.to_load c.requires.lives
    c.requires.flies) c.requires.document))

pub returns-clause-lives : goal.returns-clause-lives
returns-clause-lives c =
    let p = c.args.self.now in
    absent_document_lives p _ _ c.mark_absent.new.self c.args.pass c.args.key c.args.why
    c.requires.lives c.requires.flies c.requires.gone c.requires.document
    c.push_reserved.ensures.items c.push_reserved.ensures.room c.end_flight-flown.ensures.flying
    (c.mark_absent.ensures.gone
    ∙ ap (λ k. p.arena.store.gone ++ k ∷ []) c.end_flight-flown.ensures.key)
    c.mark_absent.ensures.loaded c.mark_absent.ensures.room
