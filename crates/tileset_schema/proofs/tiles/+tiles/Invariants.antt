use Rattle.std.proofs.Common.{◌+◌, ◌*◌, ◌≤◌, length}
use Rattle.json_decimal.specs.Handles.{json_of, items_left}
use Rattle.json_decimal.specs.JsonValue.{values, depth, values_depth}
use Rattle.tileset_schema.specs.Added.{children_left}
use Rattle.tileset_schema.specs.declared.limits.TheConstants.{TILE_LIMIT}
use Rattle.tileset_schema.proofs.Following.{GoesOn}
use Rattle.tileset_schema.proofs.tiles.+tiles.Given as goal

abbrev pub decreases-read_tile : goal.decreases-read_tile
decreases-read_tile l = 2 * depth (json_of l.value)

abbrev pub decreases-read_children : goal.decreases-read_children
decreases-read_children l = 2 * values_depth (values (children_left l.children)) + 1

abbrev pub invariant-read_children-loop-child : goal.invariant-read_children-loop-child
invariant-read_children-loop-child l = record {
  few : length l.tiles.items ≤ TILE_LIMIT;
  within : values_depth (values (items_left l.rest)) ≤ values_depth
      (values (children_left l.children));
  told : GoesOn l.base l.fn.tiles.items l.tiles.items (children_left l.children)
      (items_left l.rest);
}

abbrev pub decreases-read_children-loop-child : goal.decreases-read_children-loop-child
decreases-read_children-loop-child l = length (items_left l.rest)
