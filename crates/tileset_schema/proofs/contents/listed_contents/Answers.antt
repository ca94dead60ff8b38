use Rattle.json_decimal.specs.Handles.{items_left}
use Rattle.tileset_schema.specs.FirstSeen.{addresses_in}
use Rattle.tileset_schema.specs.Parts.{address_of}
use Rattle.tileset_schema.proofs.Chains.{gives_same}
use Rattle.tileset_schema.proofs.Listed.{each_uri}
use Rattle.tileset_schema.proofs.contents.listed_contents.Goals as goal

pub returns-clause-value : goal.returns-clause-value
returns-clause-value c =
    gives_same addresses_in c.all_contents.result _ _
    (each_uri _ c.args.tile (address_of c.args.base.now c.args.tile) (items_left c.args.items)
    c.in_ok-check_list.ensures)
    c.all_contents.ensures.value
