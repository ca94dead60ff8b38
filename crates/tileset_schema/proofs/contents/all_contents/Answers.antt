use Rattle.std.proofs.Common.{Ok, ap, sym, ◌∙◌}
use Rattle.std.proofs.lemmas.Result.{err_from_is_err_and}
use Rattle.json_decimal.specs.Handles.{json_of, items_left}
use Rattle.tileset_schema.specs.Uris.{content_address}
use Rattle.tileset_schema.proofs.Chains.{first_fails, more_fail, all_read}
use Rattle.tileset_schema.proofs.Listed.{first_and}
use Rattle.tileset_schema.proofs.contents.all_contents.Goals as goal

pub returns-in_err-first-clause-value : goal.returns-in_err-first-clause-value
returns-in_err-first-clause-value c =
    let p = err_from_is_err_and c.from_residual-in_err-first.result
    c.from_residual-in_err-first.ensures.1 in
    rw (p.1, p.2)
    (first_fails _ _ (content_address c.args.base.now c.args.tile) (items_left c.args.items)
    (items_left c.next.new.self) (json_of c.in-Some.value) c.in-Some.ensures
    c.in_err-first.field-0.0 c.in_err-first.ensures)

pub returns-in_err-more-clause-value : goal.returns-in_err-more-clause-value
returns-in_err-more-clause-value c =
    let p = err_from_is_err_and c.from_residual-in_err-more.result
    c.from_residual-in_err-more.ensures.1 in
    rw (p.1, p.2)
    (more_fail _ _ (content_address c.args.base.now c.args.tile) (items_left c.args.items)
    (items_left c.next.new.self) (json_of c.in-Some.value) c.in-Some.ensures
    c.in_ok-first.first c.in_err-more.field-0.0 c.in_ok-first.ensures c.in_err-more.ensures)

pub returns-clause-value : goal.returns-clause-value
returns-clause-value c =
    all_read _ _ (content_address c.args.base.now c.args.tile) (items_left c.args.items)
    (items_left c.next.new.self) (json_of c.in-Some.value) c.in-Some.ensures
    c.in_ok-first.first c.in_ok-more.more.items c.in_ok-first.ensures c.in_ok-more.ensures
    ∙ ap Ok
    (sym
    (first_and c.of.result.kind c.of.result.text c.in_ok-more.more.items c.in_ok-first.first
    c.of.ensures.value))
