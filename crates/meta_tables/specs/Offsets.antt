-- Where the texts of a column begin and end (OGC 22-025r4, "Binary table format", "Strings").
use Rattle.std.specs.Prelude.{ℕ, ◌+◌, ◌*◌, ◌≤◌, Bool, ◌&&◌, nat_le, if◌then◌else◌, Option, Some, None, List}
use Rattle.std.specs.Prelude.{length, drop, slice_range, bytes_eq, codes}
use Rattle.std.specs.List.{range_with_len, list_all}
use Rattle.std.specs.Str.{is_utf8}
use Rattle.byteorder.specs.Endian.{little_number}
use Rattle.meta_tables.specs.declared.offset_type.OffsetType.{OffsetType}
use Rattle.meta_tables.specs.declared.offset_type.OffsetType.TheVariants.{Uint8, Uint16, Uint32, Uint64}

-- how many bytes an offset has
abbrev pub offset_size : OffsetType → ℕ
offset_size Uint8 = 1
offset_size Uint16 = 2
offset_size Uint32 = 4
offset_size Uint64 = 8

-- the type that a text names
abbrev pub offset_type_named : List ℕ → Option OffsetType
offset_type_named name =
    if bytes_eq name (codes "UINT8") then Some Uint8
    else if bytes_eq name (codes "UINT16") then Some Uint16
    else if bytes_eq name (codes "UINT32") then Some Uint32
    else if bytes_eq name (codes "UINT64") then Some Uint64
    else None

-- offset i of the bytes of offsets
abbrev pub offset_at : OffsetType → List ℕ → ℕ → ℕ
offset_at type offsets i =
    little_number (offset_size type) (drop (i * offset_size type) offsets)

-- the text of a row: the bytes between its offset and the next
abbrev pub text_at : OffsetType → List ℕ → List ℕ → ℕ → List ℕ
text_at type offsets values row =
    slice_range values (offset_at type offsets row) (offset_at type offsets (row + 1))

-- the offsets around a row don't fall
abbrev pub rises_at : OffsetType → List ℕ → ℕ → Bool
rises_at type offsets row = nat_le (offset_at type offsets row) (offset_at type offsets (row + 1))

-- the offsets of so many rows fall nowhere, and the last doesn't pass the values
abbrev pub are_offsets : OffsetType → List ℕ → List ℕ → ℕ → Bool
are_offsets type offsets values count =
    list_all (rises_at type offsets) (range_with_len 0 count)
    && nat_le (offset_at type offsets count) (length values)

-- each of so many texts is UTF-8
abbrev pub are_utf8 : OffsetType → List ℕ → List ℕ → ℕ → Bool
are_utf8 type offsets values count =
    list_all (λ row. is_utf8 (text_at type offsets values row)) (range_with_len 0 count)

-- the offsets around a row are there, they don't fall, and the second doesn't pass the values
pub record HasText (type : OffsetType) (offsets values : List ℕ) (row : ℕ) : Type 0 where
  pub there : (row + 2) * offset_size type ≤ length offsets
  pub rises : offset_at type offsets row ≤ offset_at type offsets (row + 1)
  pub within : offset_at type offsets (row + 1) ≤ length values
