-- Where texts that stand behind one another may be cut.
use Rattle.std.specs.Prelude.{ℕ, ◌<◌, ◌-◌, List}
use Rattle.std.specs.Str.{IsCharBoundary}
use Rattle.meta_tables.specs.Offsets.{offset_at}
use Rattle.meta_tables.specs.declared.offset_type.OffsetType.{OffsetType}

-- each of the first offsets, counted from `start`, is between two characters
abbrev pub AreBoundaries : OffsetType → List ℕ → ℕ → List ℕ → ℕ → Type 0
AreBoundaries type offsets start text count =
    (k : ℕ) → k < count → IsCharBoundary text (offset_at type offsets k - start)
