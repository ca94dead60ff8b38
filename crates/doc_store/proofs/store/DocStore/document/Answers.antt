use Rattle.doc_store.proofs.Numbered.{named_rows, keyed_schema, numbered_schema}
use Rattle.doc_store.proofs.store.DocStore.document.Goals as goal

pub returns-clause-named : goal.returns-clause-named
returns-clause-named c =
    named_rows c.args.self.now c.args.number c.in_ok-numbered.field-0.now c.in_ok-numbered.ensures
    c.tileset.result c.tileset.ensures

pub returns-clause-schema : goal.returns-clause-schema
returns-clause-schema c =
    numbered_schema c.args.self.now c.args.number c.in_ok-numbered.field-0.now c.in_ok-numbered.ensures
    c.tileset.result c.tileset.ensures

pub returns-clause-schema_at : goal.returns-clause-schema_at
returns-clause-schema_at c =
    keyed_schema c.args.self.now c.args.number c.in_ok-numbered.field-0.now c.in_ok-numbered.ensures
    c.tileset.result c.tileset.ensures
