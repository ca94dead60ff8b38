-- The value that the JSON chunk spells.
use Rattle.std.proofs.Common.{ℕ, ◌+◌, Bool, if◌then◌else◌, List, [], ◌∷◌, length, map, codes, decimal}
use Rattle.json_decimal.specs.JsonValue.{JsonValue, Pairs, number, list, object, no_values, value, no_pairs, pair, values}
use Rattle.subtree_write.specs.Rows.{binary, first_bit, is_constant, streams, views}
use Rattle.subtree_write.specs.Texts.{streams_of}
use Rattle.subtree_write.specs.declared.spec.SubtreeSpec.{SubtreeSpec}
use Rattle.subtree_write.specs.declared.streams.View.{View}

abbrev pub bit_text : Bool → List ℕ
bit_text bit = if bit then codes "1" else codes "0"

abbrev pub constant_value : Bool → JsonValue
constant_value bit = object (pair (codes "constant") (number (bit_text bit)) no_pairs)

abbrev pub bitstream_value : ℕ → JsonValue
bitstream_value n = object (pair (codes "bitstream") (number (decimal n)) no_pairs)

abbrev pub availability_value : ℕ → List Bool → JsonValue
availability_value before row =
    if is_constant row then constant_value (first_bit row) else bitstream_value before

abbrev pub availability_values : ℕ → List (List Bool) → List JsonValue
availability_values before [] = []
availability_values before (row ∷ rows) =
    availability_value before row
    ∷ availability_values (before + length (streams (row ∷ []))) rows

abbrev pub view_value : View → JsonValue
view_value view =
    object
    (pair (codes "buffer") (number (codes "0"))
    (pair (codes "byteOffset") (number (decimal view.byte_offset))
    (pair (codes "byteLength") (number (decimal view.byte_length)) no_pairs)))

abbrev pub buffer_value : ℕ → JsonValue
buffer_value bytes = object (pair (codes "byteLength") (number (decimal bytes)) no_pairs)

abbrev pub storage_pairs : List View → ℕ → Pairs → Pairs
storage_pairs [] bytes more = more
storage_pairs (view ∷ views) bytes more =
    pair (codes "buffers") (list (value (buffer_value bytes) no_values))
    (pair (codes "bufferViews") (list (values (map view_value (view ∷ views)))) more)

abbrev pub contents_pairs : ℕ → List (List Bool) → Pairs → Pairs
contents_pairs before [] more = more
contents_pairs before (row ∷ rows) more =
    pair (codes "contentAvailability") (list (values (availability_values before (row ∷ rows))))
    more

abbrev pub child_pairs : SubtreeSpec → Pairs
child_pairs spec =
    pair (codes "childSubtreeAvailability")
    (availability_value (length (streams (spec.tiles ∷ spec.contents))) spec.children) no_pairs

abbrev pub available_pairs : SubtreeSpec → Pairs
available_pairs spec =
    pair (codes "tileAvailability") (availability_value 0 spec.tiles)
    (contents_pairs (length (streams (spec.tiles ∷ []))) spec.contents (child_pairs spec))

abbrev pub all_pairs : SubtreeSpec → Pairs
all_pairs spec =
    storage_pairs (views 0 (streams_of spec)) (length (binary (streams_of spec)))
    (available_pairs spec)

unfoldable pub json_value : SubtreeSpec → JsonValue
json_value spec = object (all_pairs spec)
