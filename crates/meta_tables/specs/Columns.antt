-- The columns of a property table (OGC 22-025r4, "Property tables").
use Rattle.std.specs.Prelude.{ℕ, if◌then◌else◌, Option, Some, None, option_map, Ok, List}
use Rattle.std.specs.List.{filter_map}
use Rattle.json_decimal.specs.JsonValue.{JsonValue, last_of}
use Rattle.subtree_binary.specs.Availability.{Storage, Members}
use Rattle.subtree_binary.specs.declared.views.View.{View}
use Rattle.meta_schema.specs.Schemas.{SchemaParts, PropertyParts}
use Rattle.meta_schema.specs.declared.property.PropertyType.{PropertyType}
use Rattle.meta_schema.specs.declared.property.PropertyType.TheVariants.{Whole, Boolean, Words, Enum, Skipped}
use Rattle.meta_tables.specs.Causes.{Read, ◌>>=◌, or_cause}
use Rattle.meta_tables.specs.Checks.{checked}
use Rattle.meta_tables.specs.Tables.{ColumnParts, plain_column, skipped_column}
use Rattle.meta_tables.specs.Views.{are_internal, bytes_in}
use Rattle.meta_tables.specs.Written.{column_views}
use Rattle.meta_tables.specs.declared.error.TableError.TheVariants.{Shape, ViewRange}
use Rattle.meta_tables.specs.declared.views.ColumnViews.{ColumnViews}
use Rattle.meta_tables.specs.declared.views.OffsetView.{OffsetView}

abbrev pub bytes_at : Storage → View → Read (List ℕ)
bytes_at storage view = or_cause ViewRange (bytes_in storage view)

-- ---- a column

abbrev pub with_offsets : Storage → Option OffsetView → ColumnParts → Read ColumnParts
with_offsets storage None c = Ok c
with_offsets storage (Some o) c =
    bytes_at storage o.view >>= λ offsets.
    Ok (record {
      name = c.name;
      kind = c.kind;
      values = c.values;
      offset_type = o.offset_type;
      offsets = offsets;
    })

-- the column of these views
abbrev pub of_views : Storage → List ℕ → PropertyType → ColumnViews → Read ColumnParts
of_views storage name kind views =
    bytes_at storage views.values >>= λ values.
    with_offsets storage views.offsets (plain_column name kind values)

-- one with a view outside the binary chunk is skipped
abbrev pub stored : SchemaParts → Storage → ℕ → List ℕ → PropertyType → ColumnViews
    → Read ColumnParts
stored schema storage count name kind views =
    if are_internal storage.buffers views
    then of_views storage name kind views >>= checked schema count
    else Ok (skipped_column name)

-- one of a kind that is read
abbrev pub written : SchemaParts → Storage → ℕ → List ℕ → PropertyType → JsonValue
    → Read ColumnParts
written schema storage count name kind v =
    or_cause Shape (column_views storage.views kind v) >>= stored schema storage count name kind

-- of one that the schema skips nothing is looked at
abbrev pub of_kind : SchemaParts → Storage → ℕ → List ℕ → JsonValue → PropertyType
    → Read ColumnParts
of_kind schema storage count name v (Whole component) =
    written schema storage count name (Whole component) v
of_kind schema storage count name v Boolean = written schema storage count name Boolean v
of_kind schema storage count name v Words = written schema storage count name Words v
of_kind schema storage count name v (Enum number) =
    written schema storage count name (Enum number) v
of_kind schema storage count name v Skipped = Ok (skipped_column name)

-- the column of a property, and of what the table says of it
abbrev pub column : SchemaParts → Storage → ℕ → PropertyParts × JsonValue → Read ColumnParts
column schema storage count p = of_kind schema storage count p.0.name p.1 p.0.kind

-- ---- those that the table has

-- a property with what the table says of it, if it says something
abbrev pub owned_one : Members → PropertyParts → Option (PropertyParts × JsonValue)
owned_one members p = option_map (λ v. (p, v)) (last_of p.name members)

-- those properties of a class that the table has, in the order of the class
abbrev pub owned : Members → List PropertyParts → List (PropertyParts × JsonValue)
owned members properties = filter_map (owned_one members) properties
