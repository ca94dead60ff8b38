use Rattle.std.proofs.Common.{◌≡◌, ◌∙◌, ap, Some, rules, to_z, of_z}
use Rattle.std.specs.Int.{w128}
use Rattle.meta_schema.specs.Enums.{in_type}
use Rattle.meta_schema.specs.Seen.{value_seen}
use Rattle.meta_schema.proofs.Types.{told_in_type}
use Rattle.meta_schema.proofs.whole_numbers.whole_in.Goals as goal

pub returns-in-Some : goal.returns-in-Some
returns-in-Some c =
    let whole = c.in-Some.whole in
    let kept : to_z w128 (of_z w128 whole) ≡ whole = search rules in
    c.in_type.ensures
    ∙ ap (in_type c.args.component) kept
    ∙ told_in_type c.args.component (value_seen c.args.value) (Some whole) c.in-Some.ensures
