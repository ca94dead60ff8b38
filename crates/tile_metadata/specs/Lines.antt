-- The lines that the metadata of implicit tiles is printed as.
use Rattle.std.specs.Prelude.{ℕ, true, false, List, ◌++◌, codes, map}
use Rattle.std.specs.Fmt.{signed_decimal}
use Rattle.json_decimal.specs.Printed.{quoted}
use Rattle.meta_tables.specs.Cells.{CellParts, whole, truth, words, named, unnamed, skipped, cell_in}
use Rattle.meta_tables.specs.Tables.{TableParts}
use Rattle.meta_tables.specs.declared.error.TableError.{TableError}
use Rattle.meta_tables.specs.declared.error.TableError.TheVariants.{Shape, UnknownClass, ViewRange, Offsets, NotUtf8, OutOfMemory}

-- a number, a truth value, a text or an enum's name as JSON spells it, `unnamed` with the number of an
-- enum's value that has no name, or `skipped`
abbrev pub cell_text : CellParts → List ℕ
cell_text (whole number) = signed_decimal number
cell_text (truth true) = codes "true"
cell_text (truth false) = codes "false"
cell_text (words text) = quoted text
cell_text (named name) = quoted name
cell_text (unnamed number) = codes "unnamed " ++ signed_decimal number
cell_text skipped = codes "skipped"

-- `meta NAME PROPERTY VALUE`
unfoldable pub meta_line : List ℕ → List ℕ → CellParts → List ℕ
meta_line name property cell =
    codes "meta " ++ name ++ codes " " ++ property ++ codes " " ++ cell_text cell ++ codes "\n"

-- a line for each column of a row
abbrev pub row_lines : List ℕ → TableParts → ℕ → List (List ℕ)
row_lines name table row =
    map (λ c. meta_line name c.name (cell_in table.schema row c)) table.columns

abbrev pub table_cause : TableError → List ℕ
table_cause Shape = codes "Shape"
table_cause UnknownClass = codes "UnknownClass"
table_cause ViewRange = codes "ViewRange"
table_cause Offsets = codes "Offsets"
table_cause NotUtf8 = codes "NotUtf8"
table_cause OutOfMemory = codes "OutOfMemory"

-- `table NAME CAUSE`
unfoldable pub table_line : List ℕ → TableError → List ℕ
table_line name cause = codes "table " ++ name ++ codes " " ++ table_cause cause ++ codes "\n"
