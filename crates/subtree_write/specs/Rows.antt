-- Rows of bits, and the bytes of those that aren't all the same (OGC 22-025r4, "Availability
-- Bitstreams").
use Rattle.std.specs.Prelude.{ℕ, ◌+◌, ◌-◌, ◌*◌, Bool, false, cond, not, List, [], ◌∷◌, ◌++◌}
use Rattle.std.specs.Prelude.{length, map, take, drop, replicate}
use Rattle.std.specs.Bool.{beq}
use Rattle.std.specs.Int.{div_ceil, next_multiple_of}
use Rattle.std.specs.List.{filter, flat_map, list_all, range_with_len}
use Rattle.subtree_write.specs.declared.streams.View.{View}

-- ---- bits

abbrev pub first_bit : List Bool → Bool
first_bit [] = false
first_bit (bit ∷ bits) = bit

-- all bits are the same
abbrev pub is_constant : List Bool → Bool
is_constant bits = list_all (beq (first_bit bits)) bits

-- those of the rows that aren't: they become bitstreams
abbrev pub streams : List (List Bool) → List (List Bool)
streams rows = filter (λ row. not (is_constant row)) rows

-- ---- bytes

-- the number whose binary digits these are, the lowest first
abbrev pub byte_of : List Bool → ℕ
byte_of [] = 0
byte_of (bit ∷ bits) = cond bit 1 0 + 2 * byte_of bits

-- the least number of bytes that hold the bits, eight in each; those that aren't used are 0
unfoldable pub packed : List Bool → List ℕ
packed bits =
    map (λ i. byte_of (take 8 (drop (8 * i) bits)))
    (range_with_len 0 (div_ceil (length bits) 8))

-- how many bytes fill up so many to a multiple of 8
unfoldable pub padding : ℕ → ℕ
padding count = next_multiple_of count 8 - count

-- bytes that are filled up by others to a multiple of 8
abbrev pub padded : ℕ → List ℕ → List ℕ
padded filler bytes = bytes ++ replicate (padding (length bytes)) filler

-- ---- the binary chunk

abbrev pub stream_bytes : List Bool → List ℕ
stream_bytes stream = padded 0 (packed stream)

-- the bytes of the streams, one behind the other
unfoldable pub binary : List (List Bool) → List ℕ
binary streams = flat_map stream_bytes streams

-- where the bytes of each stream are, the first of them at an offset
abbrev pub views : ℕ → List (List Bool) → List View
views offset [] = []
views offset (stream ∷ streams) =
    record { byte_offset = offset; byte_length = length (packed stream) }
    ∷ views (offset + length (stream_bytes stream)) streams
