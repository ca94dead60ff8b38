use Rattle.std.proofs.Common.{◌≡◌, length}
use Rattle.json_decimal.specs.Handles.{items_left}
use Rattle.tileset_schema.specs.Causes.{each}
use Rattle.tileset_schema.specs.Uris.{content_template}
use Rattle.tileset_schema.proofs.Chains.{behind}
use Rattle.tileset_schema.proofs.templates.each_template.Given as goal

abbrev pub invariant-loop-value : goal.invariant-loop-value
invariant-loop-value l =
    behind l.templates.items (each (content_template l.octree l.tile) (items_left l.rest))
    ≡ each (content_template l.octree l.tile) (items_left l.items)

abbrev pub decreases-loop-value : goal.decreases-loop-value
decreases-loop-value l = length (items_left l.rest)
