use Rattle.std.proofs.Common.{◌+◌, ◌-◌, ◌*◌, length}
use Rattle.json_decimal.proofs.NestedRead.{HasRead}
use Rattle.json_decimal.proofs.entries.+reading.Given as goal

abbrev pub decreases-nested : goal.decreases-nested
decreases-nested l = 5 * l.depth

abbrev pub decreases-list : goal.decreases-list
decreases-list l = 5 * l.depth + 1

abbrev pub decreases-object : goal.decreases-object
decreases-object l = 5 * l.depth + 1

abbrev pub decreases-inner : goal.decreases-inner
decreases-inner l = 5 * l.depth + 2

abbrev pub decreases-value : goal.decreases-value
decreases-value l = 5 * l.depth + 3

abbrev pub decreases-item : goal.decreases-item
decreases-item l = 5 * l.depth + 4

abbrev pub invariant-nested-loop-after : goal.invariant-nested-loop-after
invariant-nested-loop-after l =
    HasRead l.nesting (l.depth - 1) l.bytes l.spelled l.inside l.fn.entries.items l.entries.items
    l.rest

abbrev pub decreases-nested-loop-after : goal.decreases-nested-loop-after
decreases-nested-loop-after l = length l.rest
