use Rattle.std.proofs.Common.{rules, ◌≡◌, ◌++◌, ◌∷◌, [], Some, None, ap, sym, ◌∙◌}
use Rattle.std.specs.Prelude.{is_some, option_copied}
use Rattle.std.proofs.lemmas.Bool.{true≢false}
use Rattle.tile_uri.specs.declared.part.Part.{Part}
use Rattle.tile_uri.specs.Templates.{parts_of, part_at, texts_behind}
use Rattle.tile_uri.proofs.Braces.{left-split, no_more, one_more, texts_behind-split, with_parts}
use Rattle.tile_uri.proofs.part.read_parts.Goals as goal

pub returns-in_default-part_at : goal.returns-in_default-part_at
returns-in_default-part_at c =
    let octree = c.args.octree in
    let split = c.split_at_brace in
    let rest = option_copied c.loop-rest.rest in
    let texts =
    texts_behind-split rest c.in-Some.text.now split.result.0.now (option_copied split.result.1)
    (ap option_copied c.in-Some.is) split.ensures.before split.ensures.behind in
    let none : part_at octree split.result.0.now ≡ None = sym c.in_default-part_at.ensures in
    let left : parts_of octree (texts_behind rest) ≡ None =
    ap (parts_of octree) texts
    ∙ no_more octree split.result.0.now (texts_behind (option_copied split.result.1)) none in
    let nothing = sym c.loop-rest.invariant ∙ ap (with_parts c.loop-rest.parts.items) left in
    absurd (true≢false (sym c.requires ∙ ap is_some nothing))

pub loop-rest-smaller : goal.loop-rest-smaller
loop-rest-smaller c =
    left-split (option_copied c.loop-rest.rest) c.in-Some.text.now
    (option_copied c.split_at_brace.result.1) (ap option_copied c.in-Some.is)
    c.split_at_brace.ensures.behind

pub loop-rest-preserved : goal.loop-rest-preserved
loop-rest-preserved c =
    let octree = c.args.octree in
    let so_far = c.loop-rest.parts.items in
    let found = c.in-Some-part_at in
    let part : Part = record { variable = found.variable; literal = found.literal.now } in
    let split = c.split_at_brace in
    let texts =
    texts_behind-split (option_copied c.loop-rest.rest) c.in-Some.text.now split.result.0.now
    (option_copied split.result.1) (ap option_copied c.in-Some.is)
    split.ensures.before split.ensures.behind in
    let more = texts_behind (option_copied split.result.1) in
    let here : part_at octree split.result.0.now ≡ Some part = sym found.ensures in
    let items : c.push.new.parts.items ≡ so_far ++ part ∷ [] = search rules in
    ap (λ it. with_parts it (parts_of octree more)) items
    ∙ one_more octree so_far part split.result.0.now more here
    ∙ ap (λ ts. with_parts so_far (parts_of octree ts)) (sym texts)
    ∙ c.loop-rest.invariant
