-- The tiles of a document as a list in preorder, and the tree that such a list stands for.
use Rattle.std.specs.Prelude.{ℕ, ◌-◌, ◌==◌, if◌then◌else◌, Ok, List, [], ◌∷◌, ◌++◌}
use Rattle.tileset_schema.specs.Causes.{Read, ◌>>=◌}
use Rattle.tileset_schema.specs.Parts.{WrittenParts}
use Rattle.tileset_schema.specs.Tiles.{WrittenTile, WrittenTiles, written, no_tiles, more_tiles, tile_count}

-- what a tile says, and how many tiles its tree has, its own counted: its first child is the next
-- tile, and a child's next sibling stands behind all tiles of that child
pub record Row : Type 0 where
  pub parts : WrittenParts
  pub size : ℕ

abbrev mutual
  -- the tiles of a tree in preorder
  pub rows : WrittenTile → List Row
  rows (written own children) =
      record { parts = own; size = tile_count (written own children) } ∷ all_rows children

  pub all_rows : WrittenTiles → List Row
  all_rows no_tiles = []
  all_rows (more_tiles t ts) = rows t ++ all_rows ts

-- the tiles of what is read
abbrev pub rows_read : Read WrittenTile → Read (List Row)
rows_read read = read >>= λ root. Ok (rows root)

-- ---- the tree of a list

-- the trees that make up so many tiles, and those behind them
abbrev pub split_trees : ℕ → List WrittenTile → WrittenTiles × List WrittenTile
split_trees size [] = (no_tiles, [])
split_trees size (t ∷ ts) =
    if size == 0 then (no_tiles, t ∷ ts)
    else (let rest = split_trees (size - tile_count t) ts in (more_tiles t rest.0, rest.1))

abbrev pub with_row : Row → List WrittenTile → List WrittenTile
with_row row behind =
    let split = split_trees (row.size - 1) behind in written row.parts split.0 ∷ split.1

-- the trees of rows in preorder
abbrev pub trees : List Row → List WrittenTile
trees [] = []
trees (row ∷ more) = with_row row (trees more)
