use Rattle.std.proofs.Common.{◌≡◌, length}
use Rattle.json_decimal.specs.Handles.{members_left}
use Rattle.tileset_schema.specs.Named.{with_members}
use Rattle.tileset_schema.specs.ValuesSeen.{values_seen}
use Rattle.tileset_schema.proofs.tile_values.TileValues.take.Given as goal

abbrev pub invariant-loop-name : goal.invariant-loop-name
invariant-loop-name l =
    with_members (values_seen l.self) (members_left l.rest) ≡ with_members (values_seen l.fn.self)
    (members_left l.members)

abbrev pub decreases-loop-name : goal.decreases-loop-name
decreases-loop-name l = length (members_left l.rest)
