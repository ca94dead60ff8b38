-- What is kept of a tile.
use Rattle.std.specs.Prelude.{◌≤◌, IfSome}
use Rattle.volumes.specs.Limits.{IsBoxInRange, IsInRange, error_limit}
use Rattle.tileset_schema.specs.Firsts.{IsFirst}
use Rattle.tileset_schema.specs.Preorder.{Row}
use Rattle.tileset_schema.specs.Rests as rests
use Rattle.tileset_schema.specs.RowBy.{row_by}
use Rattle.tileset_schema.specs.declared.written.Written.TheInside.{Inside}

-- what the tile says, and how many tiles its tree has
abbrev pub row_of : Inside → Row
row_of w = row_by w.error w.first w.rest

-- volumes and error are within their limits, the first content is an address of its kind, and the
-- volume of an implicit root is a box
pub record IsWritten (w : Inside) : Type 0 where
  pub volume : IsInRange (rests.volume w.rest)
  pub request : IfSome (rests.request w.rest) IsInRange
  pub error : w.error ≤ error_limit
  pub first : IsFirst (rests.marks w.rest).content w.first
  pub boxed : IfSome (rests.implicit w.rest) (λ part. IsBoxInRange (rests.volume w.rest))
