use Rattle.std.proofs.Common.{◌≡◌, ◌≤◌, ◌-◌}
use Rattle.std.specs.List.{list_all, range_with_len}
use Rattle.meta_tables.specs.Offsets.{offset_at, rises_at}
use Rattle.meta_tables.proofs.EachRow.{all_from}
use Rattle.meta_tables.proofs.offsets.rise.Given as goal

abbrev pub invariant-loop-row : goal.invariant-loop-row
invariant-loop-row l =
    (l.row ≤ l.count) × (l.before ≡ offset_at l.offset_type l.offsets l.row)
    × (all_from (rises_at l.offset_type l.offsets) l.row l.count
    ≡ list_all (rises_at l.offset_type l.offsets) (range_with_len 0 l.count))

abbrev pub decreases-loop-row : goal.decreases-loop-row
decreases-loop-row l = l.count - l.row
