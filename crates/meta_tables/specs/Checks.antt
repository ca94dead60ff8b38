-- What the bytes of a column have to be (OGC 22-025r4, "Binary table format").
use Rattle.std.specs.Prelude.{ℕ, ◌+◌, ◌*◌, nat_le, Option, Some, None, Ok, length}
use Rattle.std.specs.Int.{div_ceil}
use Rattle.meta_schema.specs.Schemas.{SchemaParts, EnumParts, byte_count, enum_numbered}
use Rattle.meta_schema.specs.declared.property.PropertyType.TheVariants.{Whole, Boolean, Words, Enum, Skipped}
use Rattle.meta_schema.specs.declared.property.PropertyType.{PropertyType}
use Rattle.meta_tables.specs.Causes.{Read, ◌>>=◌, require}
use Rattle.meta_tables.specs.Offsets.{offset_size, are_offsets, are_utf8}
use Rattle.meta_tables.specs.Tables.{ColumnParts}
use Rattle.meta_tables.specs.declared.error.TableError.TheVariants.{ViewRange, Offsets, NotUtf8}

-- there are at least so many bytes
abbrev pub has_bytes : ℕ → ℕ → Read (Unit {0})
has_bytes needed there = require ViewRange (nat_le needed there)

-- how many bytes a value of an enum has
abbrev pub enum_size : Option EnumParts → ℕ
enum_size None = 0
enum_size (Some e) = byte_count e.component

-- there is an offset for each row and one more, the offsets fall nowhere and don't pass the values,
-- and each text is UTF-8
abbrev pub text_checks : ℕ → ColumnParts → Read (Unit {0})
text_checks count c =
    has_bytes ((count + 1) * offset_size c.offset_type) (length c.offsets) >>= λ u.
    require Offsets (are_offsets c.offset_type c.offsets c.values count) >>= λ u.
    require NotUtf8 (are_utf8 c.offset_type c.offsets c.values count)

-- the checks of a column whose cells are of this kind
abbrev pub checks_of : SchemaParts → ℕ → ColumnParts → PropertyType → Read (Unit {0})
checks_of schema count c (Whole component) =
    has_bytes (count * byte_count component) (length c.values)
checks_of schema count c Boolean = has_bytes (div_ceil count 8) (length c.values)
checks_of schema count c Words = text_checks count c
checks_of schema count c (Enum number) =
    has_bytes (count * enum_size (enum_numbered number schema.enums)) (length c.values)
checks_of schema count c Skipped = Ok tt

-- a column of so many rows, or the first cause why its bytes aren't one
abbrev pub checks : SchemaParts → ℕ → ColumnParts → Read (Unit {0})
checks schema count c = checks_of schema count c c.kind

abbrev pub checked : SchemaParts → ℕ → ColumnParts → Read ColumnParts
checked schema count c = checks schema count c >>= λ u. Ok c
