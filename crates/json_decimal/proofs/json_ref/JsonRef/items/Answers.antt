use Rattle.json_decimal.specs.Handles.{items_left}
use Rattle.json_decimal.proofs.Parted.{list_parts}
use Rattle.json_decimal.proofs.json_ref.JsonRef.items.Goals as goal

pub returns-in-List : goal.returns-in-List
returns-in-List c =
    list_parts c.args.self.bytes.now c.args.self.entries.now (items_left c.parts.result)
    c.in-List.ensures c.parts.ensures
