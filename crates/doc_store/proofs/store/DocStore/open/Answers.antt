use Rattle.std.proofs.Common.{◌∙◌, ap, sym}
use Rattle.tileset_schema.specs.Documents.{document}
use Rattle.tileset_schema.specs.Preorder.{rows_read}
use Rattle.doc_store.proofs.Opening.{rows_at_root, is_opened}
use Rattle.doc_store.proofs.store.DocStore.open.Goals as goal

pub store_of-requires-clause-tiles : goal.store_of-requires-clause-tiles
store_of-requires-clause-tiles c =
    rows_at_root c.args.root.now c.text.result.now c.args.bytes c.in-Ok.document.rows
    c.text.ensures.address c.text.ensures.short c.text.ensures.value
    (ap (λ bytes. rows_read (document bytes c.args.root.now)) (sym c.as_slice.ensures)
    ∙ c.in-Ok.ensures.tiles)

pub returns-in-Ok-store_of-clause-ok : goal.returns-in-Ok-store_of-clause-ok
returns-in-Ok-store_of-clause-ok c =
    is_opened c.in-Ok-store_of.store c.args.root.now c.text.result.now c.args.bytes
    c.in-Ok.document.rows c.text.ensures.address c.text.ensures.short c.text.ensures.value
    c.in-Ok-store_of.ensures
    (ap (λ bytes. rows_read (document bytes c.args.root.now)) (sym c.as_slice.ensures)
    ∙ c.in-Ok.ensures.tiles)
