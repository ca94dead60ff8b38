use Rattle.std.proofs.Common.{◌≡◌, ◌&&◌, true, false, not, ap, sym, ◌∙◌}
use Rattle.std.specs.Prelude.{is_some, option_copied}
use Rattle.tile_uri.specs.Templates.{part_at, parts_of, texts_behind}
use Rattle.tile_uri.proofs.Braces.{is_some-option_map, is_some-parts_of, left-split, texts_behind-first, texts_behind-split}
use Rattle.tile_uri.proofs.part.is_template.Goals as goal

pub loop-rest-init : goal.loop-rest-init
loop-rest-init c =
    let split = c.split_at_brace in
    ap (λ ts. is_some (parts_of c.args.octree ts))
    (texts_behind-first c.args.text.now (option_copied split.result.1) split.ensures.behind)

pub returns-then-is_none : goal.returns-then-is_none
returns-then-is_none c =
    let octree = c.args.octree in
    let split = c.split_at_brace-in-Some in
    let more = texts_behind (option_copied split.result.1) in
    let texts =
    texts_behind-split (option_copied c.loop-rest.rest) c.in-Some.text.now split.result.0.now
    (option_copied split.result.1) (ap option_copied c.in-Some.is)
    split.ensures.before split.ensures.behind in
    let none : is_some (part_at octree split.result.0.now) ≡ false =
    ap is_some (sym c.part_at.ensures) ∙ is_some-option_map _ c.part_at.result
    ∙ c.is_none.ensures ∙ ap not c.if-is_none.true in
    sym (sym c.loop-rest.invariant
    ∙ ap (λ ts. is_some (parts_of octree ts)) texts
    ∙ is_some-parts_of octree split.result.0.now more
    ∙ ap (λ b. b && is_some (parts_of octree more)) none)

pub loop-rest-smaller : goal.loop-rest-smaller
loop-rest-smaller c =
    let split = c.split_at_brace-in-Some in
    left-split (option_copied c.loop-rest.rest) c.in-Some.text.now (option_copied split.result.1)
    (ap option_copied c.in-Some.is) split.ensures.behind

pub loop-rest-preserved : goal.loop-rest-preserved
loop-rest-preserved c =
    let octree = c.args.octree in
    let split = c.split_at_brace-in-Some in
    let more = texts_behind (option_copied split.result.1) in
    let texts =
    texts_behind-split (option_copied c.loop-rest.rest) c.in-Some.text.now split.result.0.now
    (option_copied split.result.1) (ap option_copied c.in-Some.is)
    split.ensures.before split.ensures.behind in
    let some : is_some (part_at octree split.result.0.now) ≡ true =
    ap is_some (sym c.part_at.ensures) ∙ is_some-option_map _ c.part_at.result
    ∙ c.is_none.ensures ∙ ap not c.if-is_none.false in
    sym (ap (λ ts. is_some (parts_of octree ts)) texts
    ∙ is_some-parts_of octree split.result.0.now more
    ∙ ap (λ b. b && is_some (parts_of octree more)) some)
    ∙ c.loop-rest.invariant

pub returns : goal.returns
returns c =
    ap (λ r. is_some (parts_of c.args.octree (texts_behind (option_copied r))))
    (sym c.in_default.is)
    ∙ c.loop-rest.invariant
