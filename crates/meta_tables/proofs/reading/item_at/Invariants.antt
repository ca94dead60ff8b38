use Rattle.std.proofs.Common.{◌≡◌, slice_get}
use Rattle.json_decimal.specs.Handles.{items_left}
use Rattle.meta_tables.proofs.reading.item_at.Given as goal

abbrev pub invariant-loop-left : goal.invariant-loop-left
invariant-loop-left l =
    slice_get (items_left l.rest) l.left ≡ slice_get (items_left l.items) l.index

abbrev pub decreases-loop-left : goal.decreases-loop-left
decreases-loop-left l = l.left
