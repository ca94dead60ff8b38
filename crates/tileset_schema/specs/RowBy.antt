-- The row of what is kept of a tile.
use Rattle.std.specs.Prelude.{ℕ, List}
use Rattle.tileset_schema.specs.Firsts.{contents_by}
use Rattle.tileset_schema.specs.PartsBy.{parts_by}
use Rattle.tileset_schema.specs.Preorder.{Row}
use Rattle.tileset_schema.specs.Rests as rests
use Rattle.tileset_schema.specs.Seen.{or_identity}
use Rattle.tileset_schema.specs.declared.rest.Rest.{Rest}

-- what the tile says, and how many tiles its tree has
abbrev pub row_by : ℕ → List ℕ → Rest → Row
row_by error first rest = record {
  parts = parts_by (rests.volume rest) (rests.request rest) error (rests.marks rest).refine
      (or_identity (rests.transform rest))
      (record {
        addresses = contents_by (rests.marks rest).content first (rests.more rest);
        implicit = rests.implicit rest;
      });
  size = rests.size rest;
}
