use Rattle.std.proofs.Common.{sym, ◌∙◌}
use Rattle.std.proofs.lemmas.Result.{err_from_is_err_and}
use Rattle.json_decimal.specs.Handles.{json_of, text_in, items_left}
use Rattle.tileset_schema.specs.Parts.{uri_of}
use Rattle.tileset_schema.proofs.Chains.{done_more, done_not}
use Rattle.tileset_schema.proofs.content_values.check_uris.Goals as goal

pub loop-value-preserved : goal.loop-value-preserved
loop-value-preserved c =
    sym
    (done_more _ _ (uri_of c.args.tile) (items_left c.loop-value.rest)
    (items_left c.next.new.self) (json_of c.in-Some.value) c.in-Some.ensures
    (text_in c.in_ok-uri_of.field-0) c.in_ok-uri_of.ensures)
    ∙ c.loop-value.invariant

pub returns-in_err-uri_of : goal.returns-in_err-uri_of
returns-in_err-uri_of c =
    let p = err_from_is_err_and c.from_residual.result c.from_residual.ensures.1 in
    rw (p.1, p.2)
    (sym
    (done_not _ _ (uri_of c.args.tile) (items_left c.loop-value.rest)
    (items_left c.next.new.self) (json_of c.in-Some.value) c.in-Some.ensures
    c.in_err-uri_of.field-0.0 c.in_err-uri_of.ensures)
    ∙ c.loop-value.invariant)
