use Rattle.std.proofs.Common.{◌≡◌, length}
use Rattle.json_decimal.specs.Handles.{items_left}
use Rattle.tileset_schema.specs.Causes.{each}
use Rattle.tileset_schema.specs.Uris.{content_address}
use Rattle.tileset_schema.proofs.Chains.{behind}
use Rattle.tileset_schema.proofs.contents.each_address.Given as goal

abbrev pub invariant-loop-value : goal.invariant-loop-value
invariant-loop-value l =
    behind l.addresses.items (each (content_address l.base l.tile) (items_left l.rest))
    ≡ each (content_address l.base l.tile) (items_left l.items)

abbrev pub decreases-loop-value : goal.decreases-loop-value
decreases-loop-value l = length (items_left l.rest)
