use Rattle.tileset_schema.specs.ContentSeen.{values_in}
use Rattle.tileset_schema.specs.FirstSeen.{addresses_in}
use Rattle.tileset_schema.specs.Seen.{value_seen}
use Rattle.tileset_schema.proofs.Chains.{gives_same}
use Rattle.tileset_schema.proofs.Listed.{by_values}
use Rattle.tileset_schema.proofs.contents.explicit_contents.Goals as goal

pub returns-clause-value : goal.returns-clause-value
returns-clause-value c =
    gives_same addresses_in c.contents_of.result _ _
    (by_values c.args.base.now c.args.tile (value_seen c.args.content)
    (value_seen c.args.contents) (values_in c.in_ok-values.values) c.in_ok-values.ensures)
    c.contents_of.ensures.value
