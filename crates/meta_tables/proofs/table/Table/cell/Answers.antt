use Rattle.std.proofs.Common.{◌<◌, length, ap, sym, ◌∙◌, subst}
use Rattle.meta_tables.specs.Checks.{checks}
use Rattle.meta_tables.specs.Seen.{column_seen, columns_seen}
use Rattle.meta_tables.specs.Tables.{TableParts}
use Rattle.meta_tables.proofs.Found.{seen_at, cell_is}
use Rattle.meta_tables.proofs.table.Table.cell.Goals as goal

pub cell_in-requires : goal.cell_in-requires
cell_in-requires c =
    let inside = c.self.inside in
    let schema = inside.schema.now in
    let items = inside.columns.items in
    let found = c.index.result.now in
    let row : c.args.row < inside.count =
    subst (λ (t : TableParts). c.args.row < t.count) (sym c.self.view_is) c.requires.row in
    let column : c.args.column < length (columns_seen items) =
    subst (λ (t : TableParts). c.args.column < length t.columns) (sym c.self.view_is)
    c.requires.column in
    let sound = c.self.invariant c.args.column (column_seen found) column in
    record {
      count = inside.count;
      within = row;
      is_column = ap (checks schema inside.count)
          (sym (seen_at items c.args.column found c.index.ensures)) ∙ sound;
    }

pub returns : goal.returns
returns c =
    let inside = c.self.inside in
    let schema = inside.schema.now in
    let items = inside.columns.items in
    let found = c.index.result.now in
    let column : c.args.column < length (columns_seen items) =
    subst (λ (t : TableParts). c.args.column < length t.columns) (sym c.self.view_is)
    c.requires.column in
    cell_is items c.args.column found c.index.ensures c.args.self.now schema c.args.row _
    (ap (λ (t : TableParts). t.schema) (sym c.self.view_is))
    (ap (λ (t : TableParts). t.columns) (sym c.self.view_is)) c.requires.row column
    c.cell_in.ensures
