-- Columns, one after another.
use Rattle.std.proofs.Common.{◌≡◌, ℕ, List, [], ◌∷◌, ◌++◌, Bool, true, false, if◌then◌else◌, Some, option_map, Ok, refl, ap, sym, ◌∙◌, subst}
use Rattle.std.proofs.lemmas.List.{map-append}
use Rattle.std.specs.List.{cons_option}
use Rattle.json_decimal.specs.JsonValue.{JsonValue, last_of}
use Rattle.subtree_binary.specs.Availability.{Storage, Members}
use Rattle.meta_schema.specs.Schemas.{SchemaParts, PropertyParts}
use Rattle.meta_schema.specs.declared.property.PropertyType.{PropertyType}
use Rattle.meta_schema.specs.declared.property.PropertyType.TheVariants.{Whole, Boolean, Words, Enum, Skipped}
use Rattle.meta_tables.specs.Causes.{each, or_cause, ◌>>=◌}
use Rattle.meta_tables.specs.Checks.{checks, checked}
use Rattle.meta_tables.specs.Columns.{column, owned, of_kind, written, of_views}
use Rattle.meta_tables.specs.Seen.{column_seen, columns_seen}
use Rattle.meta_tables.specs.Tables.{ColumnParts, skipped_column}
use Rattle.meta_tables.specs.Views.{are_internal}
use Rattle.meta_tables.specs.Written.{column_views}
use Rattle.meta_tables.specs.declared.column.Column.{Column}
use Rattle.meta_tables.specs.declared.error.TableError.TheVariants.{Shape}
use Rattle.meta_tables.specs.declared.views.ColumnViews.{ColumnViews}
use Rattle.meta_tables.proofs.Chains.{behind, behind_more, then_ok}

module _ (schema : SchemaParts) (storage : Storage) (count : ℕ) where
  -- the column of a property that the table has
  pub column_more : (members : Members) (rest left : List PropertyParts) (p : PropertyParts)
      (v : JsonValue) (columns new : List Column) (y : Column)
      → rest ≡ p ∷ left → Some v ≡ last_of p.name members
      → Ok (column_seen y) ≡ column schema storage count (p, v) → new ≡ columns ++ y ∷ []
      → behind (columns_seen new) (each (column schema storage count) (owned members left))
      ≡ behind (columns_seen columns) (each (column schema storage count) (owned members rest))
  column_more members rest left p v columns new y is has read added =
      let owns : owned members rest ≡ (p, v) ∷ owned members left = ap (owned members) is
      ∙ ap (λ o. cons_option (option_map (λ v. (p, v)) o) (owned members left)) (sym has) in
      let more : columns_seen new ≡ columns_seen columns ++ column_seen y ∷ [] =
      ap columns_seen added ∙ map-append column_seen columns (y ∷ []) in
      sym (ap (λ ps. behind (columns_seen columns) (each (column schema storage count) ps)) owns
      ∙ behind_more (column schema storage count) (p, v) (owned members left)
      (columns_seen columns) (columns_seen new) (column_seen y) (sym read) more)

  abbrev Is : ColumnParts → Type 0
  Is c = checks schema count c ≡ Ok tt

  by_views : (name : List ℕ) (kind : PropertyType) (views : ColumnViews) (internal : Bool)
      (y : ColumnParts)
      → (if internal then of_views storage name kind views >>= checked schema count
      else Ok (skipped_column name)) ≡ Ok y
      → Is y
  by_views name kind views true y h =
      then_ok (of_views storage name kind views) _ y h λ x e h.
      then_ok (checks schema count x) _ y h λ u is h.
      let same : x ≡ y = cc in subst Is same is
  by_views name kind views false y h =
      let same : skipped_column name ≡ y = cc in subst Is same refl

  by_value : (name : List ℕ) (kind : PropertyType) (v : JsonValue) (y : ColumnParts)
      → written schema storage count name kind v ≡ Ok y → Is y
  by_value name kind v y h =
      then_ok (or_cause Shape (column_views storage.views kind v)) _ y h λ views e h.
      by_views name kind views (are_internal storage.buffers views) y h

  by_kind : (name : List ℕ) (v : JsonValue) (kind : PropertyType) (y : ColumnParts)
      → of_kind schema storage count name v kind ≡ Ok y → Is y
  by_kind name v (Whole component) y h = by_value name (Whole component) v y h
  by_kind name v Boolean y h = by_value name Boolean v y h
  by_kind name v Words y h = by_value name Words v y h
  by_kind name v (Enum number) y h = by_value name (Enum number) v y h
  by_kind name v Skipped y h = let same : skipped_column name ≡ y = cc in subst Is same refl

  -- what is read is as it was checked
  pub is_checked : (p : PropertyParts × JsonValue) (y : ColumnParts)
      → column schema storage count p ≡ Ok y → checks schema count y ≡ Ok tt
  is_checked p y h = by_kind p.0.name p.1 p.0.kind y h
