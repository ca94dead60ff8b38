use Rattle.std.proofs.Common.{◌≡◌, length}
use Rattle.std.specs.List.{list_all}
use Rattle.json_decimal.specs.Handles.{items_left}
use Rattle.tileset_schema.specs.Documents.{is_known}
use Rattle.tileset_schema.proofs.top.are_known.Given as goal

abbrev pub invariant-loop-value : goal.invariant-loop-value
invariant-loop-value l = list_all is_known (items_left l.rest) ≡ list_all is_known
    (items_left l.items)

abbrev pub decreases-loop-value : goal.decreases-loop-value
decreases-loop-value l = length (items_left l.rest)
