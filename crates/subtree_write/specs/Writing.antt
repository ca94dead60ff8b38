-- The bytes of a binary subtree (OGC 22-025r4, "Subtrees").
use Rattle.std.specs.Prelude.{ℕ, List, ◌++◌, length, codes}
use Rattle.byteorder.specs.Endian.{little_bytes}
use Rattle.json_decimal.specs.Ascii.{space}
use Rattle.subtree_write.specs.Rows.{binary, padded}
use Rattle.subtree_write.specs.Texts.{json_text, streams_of}
use Rattle.subtree_write.specs.declared.spec.SubtreeSpec.{SubtreeSpec}

-- `subt`, the version 1, and how many bytes the chunks have; numbers are little-endian
abbrev pub header : ℕ → ℕ → List ℕ
header json binary =
    codes "subt" ++ little_bytes 4 1 ++ little_bytes 8 json ++ little_bytes 8 binary

-- the header and the chunks
abbrev pub in_file : List ℕ → List ℕ → List ℕ
in_file json binary = header (length json) (length binary) ++ json ++ binary

unfoldable pub written : SubtreeSpec → List ℕ
written spec = in_file (padded space (json_text spec)) (binary (streams_of spec))
