-- What the JSON chunk writes of a property table (OGC 22-025r4, "Property tables").
use Rattle.std.specs.Prelude.{ℕ, nat_le, if◌then◌else◌, Option, Some, None, List, [], slice_get, codes}
use Rattle.json_decimal.specs.JsonValue.{JsonValue, last_of}
use Rattle.json_decimal.specs.Parts.{members_of, items_of, text_of}
use Rattle.json_decimal.specs.Scan.{◌>>=◌}
use Rattle.subtree_binary.specs.Availability.{Members}
use Rattle.subtree_binary.specs.Chunks.{natural}
use Rattle.subtree_binary.specs.declared.views.View.{View}
use Rattle.meta_schema.specs.declared.property.PropertyType.{PropertyType}
use Rattle.meta_schema.specs.declared.property.PropertyType.TheVariants.{Whole, Boolean, Words, Enum, Skipped}
use Rattle.meta_tables.specs.Offsets.{offset_type_named}
use Rattle.meta_tables.specs.declared.limits.TheConstants.{NUMBER_LIMIT}
use Rattle.meta_tables.specs.declared.offset_type.OffsetType.{OffsetType}
use Rattle.meta_tables.specs.declared.offset_type.OffsetType.TheVariants.{Uint32}
use Rattle.meta_tables.specs.declared.views.ColumnViews.{ColumnViews}
use Rattle.meta_tables.specs.declared.views.OffsetView.{OffsetView}

-- ---- whole numbers from 0 to 2^32 - 1

abbrev pub within_limit : ℕ → Option ℕ
within_limit n = if nat_le n NUMBER_LIMIT then Some n else None

-- the value of a member, if it is one
abbrev pub number_of : Option JsonValue → Option ℕ
number_of value = value >>= natural >>= within_limit

-- ---- a table

-- the name of its class, how many rows it has, and what it says of the properties that it has
pub record WrittenTable : Type 0 where
  pub class : List ℕ
  pub count : ℕ
  pub properties : Members

-- the members of `properties`, of which there are none where it isn't there
abbrev pub properties_in : Option JsonValue → Option Members
properties_in None = Some []
properties_in (Some v) = members_of v

abbrev pub table_in : Members → Option WrittenTable
table_in own =
    last_of (codes "class") own >>= text_of >>= λ class.
    number_of (last_of (codes "count") own) >>= λ count.
    properties_in (last_of (codes "properties") own) >>= λ properties.
    Some (record { class = class; count = count; properties = properties })

-- the table of this number, from 0, in `propertyTables`, if it is one
abbrev pub written_table : ℕ → Members → Option WrittenTable
written_table index top =
    last_of (codes "propertyTables") top >>= items_of >>= λ tables.
    slice_get tables index >>= members_of >>= table_in

-- ---- a column

-- the view whose number this is, if it is there
abbrev pub view_of : List View → Option JsonValue → Option View
view_of views value = value >>= natural >>= slice_get views

-- the type of offsets, which is UINT32 where it isn't there
abbrev pub offset_type_in : Option JsonValue → Option OffsetType
offset_type_in None = Some Uint32
offset_type_in (Some v) = text_of v >>= offset_type_named

abbrev pub text_offsets : List View → Members → Option (Option OffsetView)
text_offsets views own =
    view_of views (last_of (codes "stringOffsets") own) >>= λ view.
    offset_type_in (last_of (codes "stringOffsetType") own) >>= λ type.
    Some (Some (record { view = view; offset_type = type }))

-- only texts have offsets
abbrev pub offsets_in : List View → Members → PropertyType → Option (Option OffsetView)
offsets_in views own (Whole component) = Some None
offsets_in views own Boolean = Some None
offsets_in views own Words = text_offsets views own
offsets_in views own (Enum number) = Some None
offsets_in views own Skipped = Some None

-- the views of a column of this kind
abbrev pub column_views : List View → PropertyType → JsonValue → Option ColumnViews
column_views views kind v =
    members_of v >>= λ own.
    view_of views (last_of (codes "values") own) >>= λ values.
    offsets_in views own kind >>= λ offsets.
    Some (record { values = values; offsets = offsets })
