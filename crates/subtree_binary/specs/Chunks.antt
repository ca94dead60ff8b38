-- The buffers and buffer views that the JSON chunk writes (OGC 22-025r4, "Buffers and Buffer
-- Views").
use Rattle.std.specs.Prelude.{ℕ, ℤ, pos, negsuc, nat_le, if◌then◌else◌, Option, Some, None}
use Rattle.std.specs.Prelude.{Ok, List, [], codes, is_some}
use Rattle.std.specs.Option.{option_and_then}
use Rattle.json_decimal.specs.JsonValue.{JsonValue, last_of}
use Rattle.json_decimal.specs.Parts.{members_of, items_of}
use Rattle.json_decimal.specs.WholeNumbers.{integer}
use Rattle.json_decimal.specs.declared.limits.TheConstants.{WHOLE_LIMIT}
use Rattle.subtree_binary.specs.Causes.{Read, ◌>>=◌, or_cause, or_default, each}
use Rattle.subtree_binary.specs.declared.buffers.Buffer.{Buffer}
use Rattle.subtree_binary.specs.declared.views.View.{View}
use Rattle.subtree_binary.specs.declared.error.SubtreeField.{SubtreeField}
use Rattle.subtree_binary.specs.declared.error.SubtreeField.TheVariants.{Buffers, Views}
use Rattle.subtree_binary.specs.declared.error.SubtreeError.TheVariants.{Shape}

-- ---- whole numbers from 0 to 2^63 - 1

abbrev pub within_limit : ℤ → Option ℕ
within_limit (pos n) = if nat_le n WHOLE_LIMIT then Some n else None
within_limit (negsuc n) = None

-- the value of a number, if it is one
abbrev pub natural : JsonValue → Option ℕ
natural v = option_and_then within_limit (integer v)

abbrev pub natural_of : SubtreeField → JsonValue → Read ℕ
natural_of field v = or_cause (Shape field) (natural v)

-- that of a member, which has to be there
abbrev pub natural_at : SubtreeField → Option JsonValue → Read ℕ
natural_at field value = or_cause (Shape field) value >>= natural_of field

-- ---- buffers

-- one that has a `uri` is another file
abbrev pub buffer : JsonValue → Read Buffer
buffer v =
    or_cause (Shape Buffers) (members_of v) >>= λ own.
    natural_at Buffers (last_of (codes "byteLength") own) >>= λ byte_length.
    Ok (record { byte_length = byte_length; is_external = is_some (last_of (codes "uri") own) })

-- a list of them
abbrev pub buffer_list : JsonValue → Read (List Buffer)
buffer_list v = or_cause (Shape Buffers) (items_of v) >>= each buffer

-- none, where the member isn't there
abbrev pub buffers : Option JsonValue → Read (List Buffer)
buffers value = or_default [] buffer_list value

-- ---- buffer views

abbrev pub buffer_view : JsonValue → Read View
buffer_view v =
    or_cause (Shape Views) (members_of v) >>= λ own.
    natural_at Views (last_of (codes "buffer") own) >>= λ buffer.
    or_default 0 (natural_of Views) (last_of (codes "byteOffset") own) >>= λ byte_offset.
    natural_at Views (last_of (codes "byteLength") own) >>= λ byte_length.
    Ok (record { buffer = buffer; byte_offset = byte_offset; byte_length = byte_length })

abbrev pub view_list : JsonValue → Read (List View)
view_list v = or_cause (Shape Views) (items_of v) >>= each buffer_view

abbrev pub views : Option JsonValue → Read (List View)
views value = or_default [] view_list value
