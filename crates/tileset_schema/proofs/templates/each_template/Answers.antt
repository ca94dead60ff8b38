use Rattle.std.proofs.Common.{sym, ◌∙◌}
use Rattle.std.proofs.lemmas.Result.{err_from_is_err_and}
use Rattle.json_decimal.specs.Handles.{json_of, items_left}
use Rattle.tileset_schema.specs.Causes.{each}
use Rattle.tileset_schema.specs.Uris.{content_template}
use Rattle.tileset_schema.proofs.Chains.{shorter, behind_more, fails_first, fails_same, first_fails}
use Rattle.tileset_schema.proofs.templates.each_template.Goals as goal

pub returns-in_err-content_template : goal.returns-in_err-content_template
returns-in_err-content_template c =
    let p = err_from_is_err_and c.from_residual.result c.from_residual.ensures.1 in
    let f = content_template c.args.octree c.args.tile in
    rw (p.1, p.2)
    (fails_same c.in_err-content_template.field-0.0 _ _ c.loop-value.invariant
    (fails_first c.in_err-content_template.field-0.0 (each f (items_left c.loop-value.rest)) _
    (first_fails _ _ f (items_left c.loop-value.rest) (items_left c.next.new.self)
    (json_of c.in-Some.value) c.in-Some.ensures c.in_err-content_template.field-0.0
    c.in_err-content_template.ensures)))

pub loop-value-smaller : goal.loop-value-smaller
loop-value-smaller c = shorter (items_left c.loop-value.rest) (items_left c.next.new.self)
    (json_of c.in-Some.value) c.in-Some.ensures

pub loop-value-preserved : goal.loop-value-preserved
loop-value-preserved c =
    sym
    (behind_more _ _ (content_template c.args.octree c.args.tile)
    (items_left c.loop-value.rest) (items_left c.next.new.self)
    (json_of c.in-Some.value) c.in-Some.ensures c.loop-value.templates.items
    c.push.new.self.items c.in_ok-content_template.field-0 c.in_ok-content_template.ensures
    c.in_ok-push.ensures.items)
    ∙ c.loop-value.invariant
