-- The JSON chunk of a subtree, without spaces (OGC 22-025r4, "Subtrees").
use Rattle.std.specs.Prelude.{ℕ, ◌+◌, Bool, if◌then◌else◌, List, [], ◌∷◌, ◌++◌, length, map, codes}
use Rattle.std.specs.Prelude.{decimal}
use Rattle.subtree_write.specs.Rows.{binary, first_bit, is_constant, streams, views}
use Rattle.subtree_write.specs.declared.streams.View.{View}
use Rattle.subtree_write.specs.declared.spec.SubtreeSpec.{SubtreeSpec}

-- ---- lists

-- each text behind a comma
abbrev pub further : List (List ℕ) → List ℕ
further [] = []
further (text ∷ texts) = codes "," ++ text ++ further texts

abbrev pub list_text : List (List ℕ) → List ℕ
list_text [] = codes "[]"
list_text (text ∷ texts) = codes "[" ++ text ++ further texts ++ codes "]"

-- ---- availabilities

abbrev pub constant_text : Bool → List ℕ
constant_text value = if value then codes "{\"constant\":1}" else codes "{\"constant\":0}"

abbrev pub bitstream_text : ℕ → List ℕ
bitstream_text number = codes "{\"bitstream\":" ++ decimal number ++ codes "}"

-- a row of bits, before which there are so many streams
abbrev pub availability_text : ℕ → List Bool → List ℕ
availability_text before row =
    if is_constant row then constant_text (first_bit row) else bitstream_text before

-- one row after another
abbrev pub availability_texts : ℕ → List (List Bool) → List (List ℕ)
availability_texts before [] = []
availability_texts before (row ∷ rows) =
    availability_text before row
    ∷ availability_texts (before + length (streams (row ∷ []))) rows

-- ---- buffers and buffer views

abbrev pub view_text : View → List ℕ
view_text view =
    codes "{\"buffer\":0,\"byteOffset\":" ++ decimal view.byte_offset
    ++ codes ",\"byteLength\":" ++ decimal view.byte_length ++ codes "}"

-- where there is a view; the buffer is the binary chunk, which has so many bytes
abbrev pub storage_text : List View → ℕ → List ℕ
storage_text [] bytes = []
storage_text (view ∷ views) bytes =
    codes "\"buffers\":[{\"byteLength\":" ++ decimal bytes ++ codes "}],\"bufferViews\":"
    ++ list_text (map view_text (view ∷ views)) ++ codes ","

-- ---- the whole

-- where there is a content
abbrev pub contents_text : ℕ → List (List Bool) → List ℕ
contents_text before [] = []
contents_text before (row ∷ rows) =
    codes ",\"contentAvailability\":" ++ list_text (availability_texts before (row ∷ rows))

-- the rows of bits, in the order in which they are written
abbrev pub rows : SubtreeSpec → List (List Bool)
rows spec = (spec.tiles ∷ spec.contents) ++ spec.children ∷ []

-- those that become bitstreams
abbrev pub streams_of : SubtreeSpec → List (List Bool)
streams_of spec = streams (rows spec)

-- the availability of tiles, contents and child subtrees
unfoldable pub available_text : SubtreeSpec → List ℕ
available_text spec =
    codes "\"tileAvailability\":" ++ availability_text 0 spec.tiles
    ++ contents_text (length (streams (spec.tiles ∷ []))) spec.contents
    ++ codes ",\"childSubtreeAvailability\":"
    ++ availability_text (length (streams (spec.tiles ∷ spec.contents))) spec.children

unfoldable pub json_text : SubtreeSpec → List ℕ
json_text spec =
    codes "{" ++ storage_text (views 0 (streams_of spec)) (length (binary (streams_of spec)))
    ++ available_text spec ++ codes "}"
