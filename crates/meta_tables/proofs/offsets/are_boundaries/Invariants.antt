use Rattle.std.proofs.Common.{◌≤◌, ◌-◌}
use Rattle.meta_tables.specs.Boundaries.{AreBoundaries}
use Rattle.meta_tables.proofs.offsets.are_boundaries.Given as goal

abbrev pub invariant-loop-row : goal.invariant-loop-row
invariant-loop-row l =
    (l.row ≤ l.count) × AreBoundaries l.offset_type l.offsets l.start l.text l.row

abbrev pub decreases-loop-row : goal.decreases-loop-row
decreases-loop-row l = l.count - l.row
