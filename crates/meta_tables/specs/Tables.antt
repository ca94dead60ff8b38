-- What a property table holds (OGC 22-025r4, "Property tables").
use Rattle.std.specs.Prelude.{ℕ, List, []}
use Rattle.meta_schema.specs.Schemas.{SchemaParts}
use Rattle.meta_schema.specs.declared.property.PropertyType.{PropertyType}
use Rattle.meta_schema.specs.declared.property.PropertyType.TheVariants.{Skipped}
use Rattle.meta_tables.specs.declared.offset_type.OffsetType.{OffsetType}
use Rattle.meta_tables.specs.declared.offset_type.OffsetType.TheVariants.{Uint32}

-- a column: the name of its property, what its cells are, and the bytes of its values; where it has
-- texts, the bytes of their offsets and how these are written
pub record ColumnParts : Type 0 where
  pub name : List ℕ
  pub kind : PropertyType
  pub values : List ℕ
  pub offset_type : OffsetType
  pub offsets : List ℕ

-- the schema that it follows, how many rows it has, and its columns
pub record TableParts : Type 0 where
  pub schema : SchemaParts
  pub count : ℕ
  pub columns : List ColumnParts

-- a column with no offsets
abbrev pub plain_column : List ℕ → PropertyType → List ℕ → ColumnParts
plain_column name kind values = record {
  name = name;
  kind = kind;
  values = values;
  offset_type = Uint32;
  offsets = [];
}

-- a column that isn't read
abbrev pub skipped_column : List ℕ → ColumnParts
skipped_column name = plain_column name Skipped []
