use Rattle.std.proofs.Common.{ℕ, List, bytes_eq, ap, ◌∙◌}
use Rattle.indexmap.specs.IndexMap.{get}
use Rattle.json_decimal.specs.Handles.{json_of, text_in, members_left}
use Rattle.json_decimal.specs.JsonValue.{later, last_of}
use Rattle.subtree_binary.specs.Seen.{value_seen, with_last}
use Rattle.subtree_binary.proofs.Lasts.{one_last}
use Rattle.meta_tables.proofs.named_values.lasts.Goals as goal

pub loop-name-preserved : goal.loop-name-preserved
loop-name-preserved c = λ name.
    let before = value_seen (get bytes_eq c.loop-name.values name) in
    let left = members_left c.next.new.self in
    let value = json_of c.in-Some.value in
    ap (λ v. later (last_of name left) v)
    (c.in_ok-put.ensures name ∙ ap (λ (key : List ℕ). with_last name before (key, value))
    c.in_ok-to_text.ensures)
    ∙ one_last name before (members_left c.loop-name.rest) left (text_in c.in-Some.name, value)
    c.in-Some.ensures
    ∙ c.loop-name.invariant name
