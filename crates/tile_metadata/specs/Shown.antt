-- The lines of the node that the lines stand at.
use Rattle.std.specs.Prelude.{ℕ, ◌≡◌, ◌<◌, ⊤, Option, Some, None, Ok, Err, List, [], ◌∷◌, option_map, slice_get}
use Rattle.std.specs.Option.{option_and_then}
use Rattle.doc_store.specs.States.{subtree_of}
use Rattle.doc_store.specs.Store.{Stored}
use Rattle.meta_schema.specs.Schemas.{SchemaParts}
use Rattle.meta_tables.specs.Causes.{Read as ReadTable}
use Rattle.meta_tables.specs.Reading.{table}
use Rattle.meta_tables.specs.Rows.{tile_table}
use Rattle.meta_tables.specs.Tables.{TableParts}
use Rattle.subtree_binary.specs.Subtrees.{SubtreeParts}
use Rattle.tile_metadata.specs.Lines.{row_lines, table_line}
use Rattle.tile_metadata.specs.Metadata.{table_lines}
use Rattle.tile_metadata.specs.declared.held.Held.TheVariants.{Read}
use Rattle.tile_metadata.specs.declared.open_table.OpenTable.{OpenTable}
use Rattle.tile_metadata.specs.declared.schemas.Schemas.{Schemas}
use Rattle.tile_metadata.specs.declared.shown.Shown.{Shown}
use Rattle.tile_metadata.specs.declared.shown.Shown.TheVariants.{Nothing, Cause, Row}

-- the table, if it is read
abbrev pub read_of : Option (ReadTable TableParts) → Option TableParts
read_of None = None
read_of (Some (Err cause)) = None
read_of (Some (Ok read)) = Some read

abbrev pub read_in : Option OpenTable → Option TableParts
read_in None = None
read_in (Some held) = read_of held.opened

-- the lines of a row of a table that is read
abbrev pub lines_in : List ℕ → ℕ → Option (ReadTable TableParts) → List (List ℕ)
lines_in name row None = []
lines_in name row (Some (Err cause)) = []
lines_in name row (Some (Ok read)) = row_lines name read row

abbrev pub lines_by : List ℕ → ℕ → Option OpenTable → List (List ℕ)
lines_by name row None = []
lines_by name row (Some held) = lines_in name row held.opened

-- what is shown, over the table that is held
abbrev pub lines_shown : Option OpenTable → Shown → List (List ℕ)
lines_shown held Nothing = []
lines_shown held (Cause name cause) = table_line name cause ∷ []
lines_shown held (Row name row) = lines_by name row held

-- the table is that of a subtree, by this schema
abbrev pub IsTableOf : SchemaParts → SubtreeParts → Option (ReadTable TableParts) → Type 0
IsTableOf s parts opened = option_map (table s parts) (tile_table parts) ≡ opened

-- the open table is that of a document and a subtree of these numbers
pub record HasNumbers (document subtree : ℕ) (held : OpenTable) : Type 0 where
  pub document_is : held.document ≡ document
  pub subtree_is : held.subtree ≡ subtree

abbrev pub IsAt : ℕ → ℕ → Option OpenTable → Type 0
IsAt document subtree None = ⊥
IsAt document subtree (Some held) = HasNumbers document subtree held

-- there is an open table, which is that of a subtree
abbrev pub IsTableIn : SchemaParts → SubtreeParts → Option OpenTable → Type 0
IsTableIn s parts None = ⊥
IsTableIn s parts (Some held) = IsTableOf s parts held.opened

-- the open table is that of its subtree, by the schema of its document
abbrev pub IsOpen : Stored → Schemas → OpenTable → Type 0
IsOpen store schemas held = (s : SchemaParts) (parts : SubtreeParts)
    → slice_get schemas.held.items held.document ≡ Some (Read s)
    → option_and_then subtree_of (slice_get store.loaded held.subtree) ≡ Some parts
    → IsTableOf s parts held.opened

abbrev pub AreOpen : Stored → Schemas → Option OpenTable → Type 0
AreOpen store schemas None = ⊤
AreOpen store schemas (Some held) = IsOpen store schemas held

-- the row is one of the table
abbrev pub HasRowIn : ℕ → Option (ReadTable TableParts) → Type 0
HasRowIn row None = ⊤
HasRowIn row (Some (Err cause)) = ⊤
HasRowIn row (Some (Ok read)) = row < read.count

abbrev pub HasRowBy : ℕ → Option OpenTable → Type 0
HasRowBy row None = ⊤
HasRowBy row (Some held) = HasRowIn row held.opened

abbrev pub HasShown : Option OpenTable → Shown → Type 0
HasShown held Nothing = ⊤
HasShown held (Cause name cause) = ⊤
HasShown held (Row name row) = HasRowBy row held

-- the lines of a tile of this index, by its subtree's table
abbrev pub opened_lines : List ℕ → ℕ → SubtreeParts → Option (ReadTable TableParts)
    → List (List ℕ)
opened_lines name index parts None = []
opened_lines name index parts (Some read) = table_lines name index parts read

abbrev pub lines_at : List ℕ → ℕ → SubtreeParts → Option OpenTable → List (List ℕ)
lines_at name index parts None = []
lines_at name index parts (Some held) = opened_lines name index parts held.opened
