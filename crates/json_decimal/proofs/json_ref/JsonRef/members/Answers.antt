use Rattle.json_decimal.specs.Handles.{items_left}
use Rattle.json_decimal.proofs.Parted.{object_parts}
use Rattle.json_decimal.proofs.json_ref.JsonRef.members.Goals as goal

pub returns-in-Object : goal.returns-in-Object
returns-in-Object c =
    object_parts c.args.self.bytes.now c.args.self.entries.now (items_left c.parts.result)
    c.in-Object.ensures c.parts.ensures
