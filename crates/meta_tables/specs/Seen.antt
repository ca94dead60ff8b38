-- What the types of the code stand for.
use Rattle.std.specs.Prelude.{ℕ, ◌≡◌, ◌<◌, Ok, Option, Some, None, List, [], map}
use Rattle.json_decimal.specs.Handles.{text_in, members_left}
use Rattle.json_decimal.specs.declared.json_members.JsonMembers.{JsonMembers}
use Rattle.subtree_binary.specs.Availability.{Members}
use Rattle.meta_schema.specs.Schemas.{SchemaParts}
use Rattle.meta_tables.specs.Cells as cells
use Rattle.meta_tables.specs.Checks.{checks}
use Rattle.meta_tables.specs.Tables.{ColumnParts}
use Rattle.meta_tables.specs.Written as written
use Rattle.meta_tables.specs.declared.cell.Cell.{Cell}
use Rattle.meta_tables.specs.declared.cell.Cell.TheVariants.{Whole, Truth, Words, Named, Unnamed, Skipped}
use Rattle.meta_tables.specs.declared.column.Column.{Column}
use Rattle.meta_tables.specs.declared.written.WrittenTable.{WrittenTable}

abbrev pub cell_seen : Cell → cells.CellParts
cell_seen (Whole value) = cells.whole value
cell_seen (Truth value) = cells.truth value
cell_seen (Words text) = cells.words text.now
cell_seen (Named name) = cells.named name.now
cell_seen (Unnamed value) = cells.unnamed value
cell_seen Skipped = cells.skipped

abbrev pub column_seen : Column → ColumnParts
column_seen c = record {
  name = c.name.now;
  kind = c.kind;
  values = c.values.now;
  offset_type = c.offset_type;
  offsets = c.offsets.now;
}

abbrev pub columns_seen : List Column → List ColumnParts
columns_seen columns = map column_seen columns

-- there are none where there is no object
abbrev pub members_seen : Option JsonMembers → Members
members_seen None = []
members_seen (Some members) = members_left members

abbrev pub table_seen : WrittenTable → written.WrittenTable
table_seen own = record {
  class = text_in own.class;
  count = own.count;
  properties = members_seen own.properties;
}

-- the column is one of so many rows that there is this one
pub record HasRow (schema : SchemaParts) (c : ColumnParts) (row : ℕ) : Type 0 where
  pub count : ℕ
  pub within : row < count
  pub is_column : checks schema count c ≡ Ok tt
