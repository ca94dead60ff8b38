-- Bitstreams (OGC 22-025r4, "Availability Bitstreams"): the bits of bytes, from the lowest of each.
use Rattle.std.specs.Prelude.{ℕ, ◌/◌, ◌%◌, ◌^◌, Bool, List, map, slice_index, ◌==◌}
use Rattle.std.specs.List.{range_with_len}

-- bit i is `(byte[i / 8] >> (i % 8)) & 1`
abbrev pub bit_of : List ℕ → ℕ → Bool
bit_of bytes i = slice_index bytes (i / 8) / 2 ^ (i % 8) % 2 == 1

-- the first bits, in order
unfoldable pub bits_of : List ℕ → ℕ → List Bool
bits_of bytes count = map (bit_of bytes) (range_with_len 0 count)
