use Rattle.meta_tables.specs.Seen.{column_seen}
use Rattle.meta_tables.proofs.Texts.{reads_text}
use Rattle.meta_tables.proofs.cells.cell_in.Goals as goal

pub text_of-requires-clause-there : goal.text_of-requires-clause-there
text_of-requires-clause-there c =
    (reads_text (column_seen c.args.column) c.args.row c.args.schema.now c.in-Words.is c.requires).0

pub text_of-requires-clause-utf8 : goal.text_of-requires-clause-utf8
text_of-requires-clause-utf8 c =
    (reads_text (column_seen c.args.column) c.args.row c.args.schema.now c.in-Words.is c.requires).1
