use Rattle.std.proofs.Common.{◌≡◌, length}
use Rattle.json_decimal.specs.Handles.{items_left}
use Rattle.tileset_schema.specs.Parts.{objects}
use Rattle.tileset_schema.specs.Uris.{done}
use Rattle.tileset_schema.proofs.content_values.check_objects.Given as goal

abbrev pub invariant-loop-value : goal.invariant-loop-value
invariant-loop-value l =
    done (objects l.tile (items_left l.rest)) ≡ done (objects l.tile (items_left l.items))

abbrev pub decreases-loop-value : goal.decreases-loop-value
decreases-loop-value l = length (items_left l.rest)
