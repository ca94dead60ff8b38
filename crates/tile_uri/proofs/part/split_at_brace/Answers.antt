use Rattle.std.proofs.Common.{rules, ◌≡◌, ◌<◌, ◌==◌, length, Some, ap, sym, ◌∙◌}
use Rattle.std.specs.List.{position_or_len, before_first, after_first}
use Rattle.tile_uri.proofs.Braces.{first_brace, no_brace}
use Rattle.tile_uri.proofs.part.split_at_brace.Goals as goal

pub returns-in-Some-clause-before : goal.returns-in-Some-clause-before
returns-in-Some-clause-before c =
    let text = c.args.text.now in
    let inside : position_or_len (λ b. b == 123) text < length text = search rules in
    let is : c.in-Some.before.now ≡ before_first (λ b. b == 123) text = search rules in
    is ∙ sym (ap (λ r. r.0) (first_brace text inside))

pub returns-in-Some-clause-behind : goal.returns-in-Some-clause-behind
returns-in-Some-clause-behind c =
    let text = c.args.text.now in
    let inside : position_or_len (λ b. b == 123) text < length text = search rules in
    let is : c.in-Some.behind.now ≡ after_first (λ b. b == 123) text = search rules in
    ap Some is ∙ sym (ap (λ r. r.1) (first_brace text inside))

pub returns-in-None-clause-before : goal.returns-in-None-clause-before
returns-in-None-clause-before c =
    let text = c.args.text.now in
    let all : position_or_len (λ b. b == 123) text ≡ length text = search rules in
    sym (ap (λ r. r.0) (no_brace text all))

pub returns-in-None-clause-behind : goal.returns-in-None-clause-behind
returns-in-None-clause-behind c =
    let text = c.args.text.now in
    let all : position_or_len (λ b. b == 123) text ≡ length text = search rules in
    sym (ap (λ r. r.1) (no_brace text all))
