-- Which table is that of tiles, and which row is a tile's (OGC 22-025r4, "Subtree metadata",
-- "Metadata of tiles").
use Rattle.std.specs.Prelude.{ℕ, Bool, Option, List, take, codes}
use Rattle.std.specs.List.{count_by}
use Rattle.json_decimal.specs.JsonValue.{last_of}
use Rattle.json_decimal.specs.Parts.{members_of}
use Rattle.json_decimal.specs.Scan.{◌>>=◌}
use Rattle.subtree_binary.specs.Subtrees.{SubtreeParts}
use Rattle.meta_tables.specs.Written.{number_of}

-- the value of `tileMetadata`, if it is a whole number from 0 to 2^32 - 1
abbrev pub tile_table : SubtreeParts → Option ℕ
tile_table subtree =
    members_of subtree.json >>= λ top. number_of (last_of (codes "tileMetadata") top)

-- how many tiles there are before that of this number
abbrev pub row_of : List Bool → ℕ → ℕ
row_of tiles index = count_by (λ b. b) (take index tiles)
