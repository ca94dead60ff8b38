use Rattle.std.proofs.Common.{◌≡◌, ◌∙◌, ap, inr, refl, subst}
use Rattle.doc_store.specs.Store.{IsFull, with_document}
use Rattle.stream_cli.proofs.Loads.{asks_absent, asks_document}
use Rattle.stream_cli.proofs.loading.keep.Goals as goal

pub returns-then-is_full-clause-asks : goal.returns-then-is_full-clause-asks
returns-then-is_full-clause-asks c = λ library fetched.
    let full : IsFull c.args.store.now c.len.result =
    c.is_full.ensures.0 c.if-is_full.true in
    asks_absent library (λ k. k ≡ c.args.key) c.args.store.now c.mark_absent.new.self
    c.args.key refl c.mark_absent.ensures.loaded c.mark_absent.ensures.gone
    (inr (inr (record {
      bytes = c.args.bytes.items;
      fetched = fetched;
      full = subst (IsFull c.args.store.now) (cc (c.len.ensures, c.args.bytes.ok.0)) full;
    })))

pub returns-in-Ok-Kept-clause-asks : goal.returns-in-Ok-Kept-clause-asks
returns-in-Ok-Kept-clause-asks c = λ library fetched.
    let kept : c.add.new.self ≡ with_document c.args.store.now c.args.key c.args.bytes.items =
    c.add.ensures.kept (rw (c.in-Ok-Kept.is, c.in-Ok-Kept.field-0-is) refl)
    ∙ ap (with_document c.args.store.now c.args.key) c.in-Ok.ensures.ok in
    rw kept (asks_document library (λ k. k ≡ c.args.key) c.args.store.now c.args.key
    c.args.bytes.items refl fetched)
