use Rattle.std.proofs.Common.{◌∙◌, ap}
use Rattle.json_decimal.specs.Handles.{json_of, text_in, members_left}
use Rattle.tileset_schema.specs.Named.{with_members}
use Rattle.tileset_schema.specs.ValuesSeen.{values_seen}
use Rattle.tileset_schema.proofs.Chains.{shorter}
use Rattle.tileset_schema.proofs.Lasts.{one_member}
use Rattle.tileset_schema.proofs.tile_values.TileValues.take.Goals as goal

pub loop-name-smaller : goal.loop-name-smaller
loop-name-smaller c = shorter (members_left c.loop-name.rest) (members_left c.next.new.self)
    (text_in c.in-Some.name, json_of c.in-Some.value) c.in-Some.ensures

pub loop-name-preserved : goal.loop-name-preserved
loop-name-preserved c =
    ap (λ values. with_members values (members_left c.next.new.self)) c.put.ensures
    ∙ one_member (values_seen c.loop-name.self) (members_left c.loop-name.rest)
    (members_left c.next.new.self) (text_in c.in-Some.name, json_of c.in-Some.value)
    c.in-Some.ensures
    ∙ c.loop-name.invariant
