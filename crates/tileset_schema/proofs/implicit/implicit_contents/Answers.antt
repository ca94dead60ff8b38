use Rattle.std.proofs.lemmas.Result.{err_from_is_err_and}
use Rattle.json_decimal.specs.Handles.{json_of}
use Rattle.tileset_schema.specs.ContentSeen.{values_in}
use Rattle.tileset_schema.specs.Seen.{value_seen}
use Rattle.tileset_schema.proofs.Chains.{fails_is, gives_same}
use Rattle.tileset_schema.proofs.ImplicitTilings.{no_uris, tiling_is}
use Rattle.tileset_schema.proofs.implicit.implicit_contents.Goals as goal

pub returns-in_err-check_contents-clause-value : goal.returns-in_err-check_contents-clause-value
returns-in_err-check_contents-clause-value c =
    let p = err_from_is_err_and c.from_residual-in_err-check_contents.result
    c.from_residual-in_err-check_contents.ensures.1 in
    rw (p.1, p.2)
    (fails_is c.in_err-check_contents.field-0.0 _
    (no_uris c.args.tile c.args.volume.now (value_seen c.args.content)
    (value_seen c.args.contents) (values_in c.in_ok-values.values) (json_of c.args.tiling)
    c.in_ok-values.ensures c.in_err-check_contents.field-0.0 c.in_err-check_contents.ensures))

pub returns-clause-value : goal.returns-clause-value
returns-clause-value c =
    gives_same _ c.tiling_of.result _ _
    (tiling_is c.args.tile c.args.volume.now (value_seen c.args.content)
    (value_seen c.args.contents) (values_in c.in_ok-values.values) (json_of c.args.tiling)
    c.in_ok-values.ensures c.in_ok-check_contents.ensures)
    c.tiling_of.ensures.value
