-- Availability bits (OGC 22-025r4, "Availability"): a constant for all, or a bitstream in the
-- binary chunk.
use Rattle.std.specs.Prelude.{ℕ, ◌+◌, ◌-◌, ◌==◌, ◌&&◌, nat_le, if◌then◌else◌, Bool, true, false}
use Rattle.std.specs.Prelude.{Option, Some, None, option_map, Ok, Err, List, [], ◌++◌, length}
use Rattle.std.specs.Prelude.{take, replicate, slice_get, slice_range, codes}
use Rattle.std.specs.Int.{div_ceil}
use Rattle.std.specs.Option.{option_and_then}
use Rattle.avail_bits.specs.Bitstreams.{bits_of}
use Rattle.json_decimal.specs.JsonValue.{JsonValue, last_of}
use Rattle.json_decimal.specs.Parts.{members_of, items_of}
use Rattle.subtree_binary.specs.Causes.{Read, ◌>>=◌, or_cause, or_default, each}
use Rattle.subtree_binary.specs.Chunks.{natural}
use Rattle.subtree_binary.specs.declared.availability.Availability.{Availability}
use Rattle.subtree_binary.specs.declared.availability.Availability.TheVariants.{Constant, Bitstream}
use Rattle.subtree_binary.specs.declared.buffers.Buffer.{Buffer}
use Rattle.subtree_binary.specs.declared.views.View.{View}
use Rattle.subtree_binary.specs.declared.error.SubtreeField.{SubtreeField}
use Rattle.subtree_binary.specs.declared.error.SubtreeField.TheVariants.{ContentAvailability}
use Rattle.subtree_binary.specs.declared.error.SubtreeError.TheVariants.{Shape, ViewRange, BitsShort, ExternalBuffer}

-- what bitstreams are read from: the buffers and buffer views that are written, and the binary
-- chunk, which buffer 0 stands for
pub record Storage : Type 0 where
  pub buffers : List Buffer
  pub views : List View
  pub binary : List ℕ

-- the pairs of an object
abbrev pub Members : Type 0
Members = List (List ℕ × JsonValue)

-- ---- what is written

abbrev pub zero_or_one : ℕ → Option Bool
zero_or_one n = if n == 0 then Some false else if n == 1 then Some true else None

-- `constant`, if it is 0 or 1
abbrev pub constant_in : Members → Option Bool
constant_in own =
    option_and_then zero_or_one (option_and_then natural (last_of (codes "constant") own))

-- the view of `bitstream`, if it is there
abbrev pub view_in : List View → Members → Option View
view_in views own =
    option_and_then (slice_get views) (option_and_then natural (last_of (codes "bitstream") own))

-- a constant counts before a bitstream
abbrev pub constant_or : Option View → Option Bool → Option Availability
constant_or view (Some value) = Some (Constant value)
constant_or view None = option_map Bitstream view

abbrev pub availability : SubtreeField → List View → JsonValue → Read Availability
availability field views v =
    or_cause (Shape field) (members_of v) >>= λ own.
    or_cause (Shape field) (constant_or (view_in views own) (constant_in own))

-- ---- the bits

-- the length of a buffer that isn't another file
abbrev pub internal : Option Buffer → Read ℕ
internal None = Err ExternalBuffer
internal (Some buffer) = if buffer.is_external then Err ExternalBuffer else Ok buffer.byte_length

-- that of buffer 0, where the view is one of it
abbrev pub internal_length : List Buffer → View → Read ℕ
internal_length buffers view =
    if view.buffer == 0 then internal (slice_get buffers 0) else Err ExternalBuffer

-- the view passes neither the buffer nor the binary chunk
abbrev pub in_range : View → ℕ → ℕ → Read (Unit {0})
in_range view buffer binary =
    if nat_le (view.byte_offset + view.byte_length) buffer
    && nat_le (view.byte_offset + view.byte_length) binary
    then Ok tt else Err ViewRange

-- it has enough bytes for so many bits
abbrev pub long_enough : View → ℕ → Read (Unit {0})
long_enough view count =
    if nat_le (div_ceil count 8) view.byte_length then Ok tt else Err BitsShort

-- the bytes of a view
abbrev pub view_bytes : View → List ℕ → List ℕ
view_bytes view binary =
    slice_range binary view.byte_offset (view.byte_offset + view.byte_length)

abbrev pub view_bits : Storage → ℕ → View → Read (List Bool)
view_bits storage count view =
    internal_length storage.buffers view >>= λ buffer.
    in_range view buffer (length storage.binary) >>= λ u.
    long_enough view count >>= λ u.
    Ok (bits_of (view_bytes view storage.binary) count)

abbrev pub bits_by : Storage → ℕ → Availability → Read (List Bool)
bits_by storage count (Constant value) = Ok (replicate count value)
bits_by storage count (Bitstream view) = view_bits storage count view

-- so many bits, as this value says
abbrev pub bits : Storage → SubtreeField → ℕ → JsonValue → Read (List Bool)
bits storage field count v = availability field storage.views v >>= bits_by storage count

-- the same of a member that has to be there
abbrev pub bits_at : Storage → SubtreeField → ℕ → Option JsonValue → Read (List Bool)
bits_at storage field count value = or_cause (Shape field) value >>= bits storage field count

-- ---- contents

-- those that have no entry are available nowhere
abbrev pub with_absent : ℕ → ℕ → List (List Bool) → List (List Bool)
with_absent count contents given =
    given ++ replicate (contents - length given) (replicate count false)

-- of the entries only as many count as there are contents
abbrev pub content_bits : Storage → ℕ → ℕ → List JsonValue → Read (List (List Bool))
content_bits storage count contents entries =
    each (bits storage ContentAvailability count) (take contents entries) >>= λ given.
    Ok (with_absent count contents given)

abbrev pub entries : Option JsonValue → Read (List JsonValue)
entries value = or_default [] (λ v. or_cause (Shape ContentAvailability) (items_of v)) value

abbrev pub contents_at : Storage → ℕ → ℕ → Option JsonValue → Read (List (List Bool))
contents_at storage count contents value = entries value >>= content_bits storage count contents
