-- The cells of a property table (OGC 22-025r4, "Binary table format"). Numbers are little-endian.
use Rattle.std.specs.Prelude.{ℕ, ◌*◌, ℤ, pos, nat_lt, Bool, if◌then◌else◌, Option, Some, None, option_map, List}
use Rattle.std.specs.Prelude.{drop, slice_get}
use Rattle.avail_bits.specs.Bitstreams.{bit_of}
use Rattle.byteorder.specs.Endian.{little_number, twos_complement}
use Rattle.meta_schema.specs.Components.{is_signed}
use Rattle.meta_schema.specs.Schemas.{SchemaParts, EnumParts, byte_count, enum_numbered, value_name}
use Rattle.meta_schema.specs.declared.component_type.ComponentType.{ComponentType}
use Rattle.meta_schema.specs.declared.property.PropertyType.{PropertyType}
use Rattle.meta_schema.specs.declared.property.PropertyType.TheVariants.{Whole, Boolean, Words, Enum, Skipped}
use Rattle.meta_tables.specs.Offsets.{text_at}
use Rattle.meta_tables.specs.Tables.{ColumnParts, TableParts}

-- a whole number, a truth value, a text, a value of an enum by its name or, where it has none, as a
-- number, and a cell that isn't read
pub data CellParts : Type 0 where
  whole : ℤ → CellParts
  truth : Bool → CellParts
  words : List ℕ → CellParts
  named : List ℕ → CellParts
  unnamed : ℤ → CellParts
  skipped : CellParts

-- the number that bytes stand for
abbrev pub number_in : ComponentType → ℕ → ℤ
number_in type n = if is_signed type then twos_complement (byte_count type) n else pos n

-- the number of a row
abbrev pub number_at : ComponentType → List ℕ → ℕ → ℤ
number_at type values row =
    number_in type (little_number (byte_count type) (drop (row * byte_count type) values))

-- the name of an enum's value, else the value
abbrev pub named_or : ℤ → Option (List ℕ) → CellParts
named_or value (Some name) = named name
named_or value None = unnamed value

abbrev pub enum_cell : List ℕ → ℕ → Option EnumParts → CellParts
enum_cell values row None = skipped
enum_cell values row (Some e) =
    named_or (number_at e.component values row)
    (value_name (number_at e.component values row) e.values)

-- the cell of a row, of this kind
abbrev pub cell_of : SchemaParts → ColumnParts → ℕ → PropertyType → CellParts
cell_of schema c row (Whole component) = whole (number_at component c.values row)
cell_of schema c row Boolean = truth (bit_of c.values row)
cell_of schema c row Words = words (text_at c.offset_type c.offsets c.values row)
cell_of schema c row (Enum number) = enum_cell c.values row (enum_numbered number schema.enums)
cell_of schema c row Skipped = skipped

-- the cell of a row in a column
abbrev pub cell_in : SchemaParts → ℕ → ColumnParts → CellParts
cell_in schema row c = cell_of schema c row c.kind

-- the cell of a row and a column of a table, both from 0
abbrev pub cell : TableParts → ℕ → ℕ → Option CellParts
cell table row column =
    if nat_lt row table.count
    then option_map (cell_in table.schema row) (slice_get table.columns column) else None
