use Rattle.std.proofs.Common.{◌∙◌, ap, map}
use Rattle.indexmap.specs.IndexMap.{insert_entry}
use Rattle.tile_types.specs.contracts.key.KeyPartialEq.TheImpl.{eq-value}
use Rattle.tile_types.proofs.Keys.{key_eq}
use Rattle.cut_core.specs.WantMap.{want_at}
use Rattle.cut_core.proofs.Wanting.{put_joins}
use Rattle.cut_core.proofs.want_map.WantMap.put.Goals as goal

pub returns : goal.returns
returns c =
    let entries = c.args.self.now.facts.entries in
    ap (map want_at) (c.in_ok-insert.ensures.entries
    ∙ ap (insert_entry eq-value.it entries c.args.key) c.facts_with-facts.ensures)
    ∙ put_joins eq-value.it key_eq c.args.key c.args.facts entries
