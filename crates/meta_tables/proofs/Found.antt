-- The cell of a column that is there.
use Rattle.std.proofs.Common.{◌≡◌, ℕ, ◌<◌, List, length, get_or, Some, slice_get, refl, ap, sym, ◌∙◌}
use Rattle.std.proofs.Math.ListN.{get_or-map}
use Rattle.std.proofs.lemmas.Bool.{lt-ltb}
use Rattle.std.proofs.lemmas.Option.{slice_get-get_or}
use Rattle.meta_schema.specs.Schemas.{SchemaParts}
use Rattle.meta_tables.specs.Cells.{CellParts, cell_in, cell}
use Rattle.meta_tables.specs.Seen.{column_seen, columns_seen}
use Rattle.meta_tables.specs.Tables.{TableParts}
use Rattle.meta_tables.specs.declared.column.Column.{Column}

module _ (items : List Column) (i : ℕ) (c : Column) (is : c ≡ get_or items i c) where
  pub seen_at : get_or (columns_seen items) i (column_seen c) ≡ column_seen c
  seen_at = get_or-map column_seen items i c ∙ ap column_seen (sym is)

  pub cell_is : (table : TableParts) (schema : SchemaParts) (row : ℕ) (x : CellParts)
      → table.schema ≡ schema → table.columns ≡ columns_seen items → row < table.count
      → i < length (columns_seen items) → x ≡ cell_in schema row (column_seen c)
      → cell table row i ≡ Some x
  cell_is table schema row x same are less there read =
      let found : slice_get table.columns i ≡ Some (column_seen c) =
      ap (λ columns. slice_get columns i) are
      ∙ slice_get-get_or (columns_seen items) i (column_seen c) there ∙ ap Some seen_at in
      rw (lt-ltb row table.count less, found, same, read) refl
