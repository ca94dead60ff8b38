-- The header of a binary subtree and the two chunks behind it (OGC 22-025r4, "Subtrees"). Its
-- numbers are little-endian.
use Rattle.std.specs.Prelude.{ℕ, ◌+◌, ◌==◌, ◌&&◌, nat_eq, nat_le, if◌then◌else◌, Ok, Err, List}
use Rattle.std.specs.Prelude.{length, drop, slice_range, codes}
use Rattle.std.specs.List.{starts_with}
use Rattle.byteorder.specs.Endian.{little_number}
use Rattle.subtree_binary.specs.Causes.{Read, ◌>>=◌}
use Rattle.subtree_binary.specs.declared.header.ChunkLengths.{ChunkLengths}
use Rattle.subtree_binary.specs.declared.header.Chunks.{Chunks}
use Rattle.subtree_binary.specs.declared.error.SubtreeError.TheVariants.{Magic, Version, Lengths}

-- bytes 0 to 3 are `subt`
abbrev pub magic : List ℕ → Read (Unit {0})
magic bytes = if starts_with nat_eq bytes (codes "subt") then Ok tt else Err Magic

-- bytes 4 to 7 are there, and are the version 1
abbrev pub version : List ℕ → Read (Unit {0})
version bytes =
    if nat_le 8 (length bytes) && little_number 4 (drop 4 bytes) == 1 then Ok tt else Err Version

-- how many bytes the chunks have: bytes 8 to 15, and 16 to 23
abbrev pub written_lengths : List ℕ → ChunkLengths
written_lengths bytes = record {
  json = little_number 8 (drop 8 bytes);
  binary = little_number 8 (drop 16 bytes);
}

-- the header is whole, and all bytes of both chunks are there
abbrev pub lengths : List ℕ → Read ChunkLengths
lengths bytes =
    if nat_le 24 (length bytes)
    && nat_le (24 + ((written_lengths bytes).json + (written_lengths bytes).binary)) (length bytes)
    then Ok (written_lengths bytes) else Err Lengths

abbrev pub header : List ℕ → Read ChunkLengths
header bytes = magic bytes >>= λ u. version bytes >>= λ u. lengths bytes

-- the JSON chunk, and then the binary chunk; bytes behind them are passed over
abbrev pub chunks_of : List ℕ → ChunkLengths → Chunks
chunks_of bytes lengths = record {
  json = slice_range bytes 24 (24 + lengths.json);
  binary = slice_range bytes (24 + lengths.json) (24 + lengths.json + lengths.binary);
}

abbrev pub chunks : List ℕ → Read Chunks
chunks bytes = header bytes >>= λ lengths. Ok (chunks_of bytes lengths)
