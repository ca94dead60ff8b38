use Rattle.std.proofs.Common.{ap, ◌∙◌}
use Rattle.json_decimal.specs.Scan.{skip}
use Rattle.json_decimal.proofs.Added.{ends_text, text_is_read, text_entries}
use Rattle.json_decimal.proofs.entries.entries_of.Goals as goal

pub value-requires-clause-ends : goal.value-requires-clause-ends
value-requires-clause-ends c =
    ends_text c.args.bytes.now c.skip_whitespace.result.now
    (c.skip_whitespace.ensures ∙ ap skip c.without_mark.ensures)

pub returns-clause-exact : goal.returns-clause-exact
returns-clause-exact c =
    text_is_read c.args.bytes.now c.skip_whitespace.result.now c.in_ok-rest.rest.now
    c.new-entries.result.items c.value.new.entries.items
    (c.skip_whitespace.ensures ∙ ap skip c.without_mark.ensures) c.in_ok-check_end.ensures.ok
    c.new-entries.ensures.items c.in_ok-rest.ensures

pub returns-clause-told : goal.returns-clause-told
returns-clause-told c =
    text_entries c.args.bytes.now c.in_ok-rest.rest.now c.new-entries.result.items
    c.value.new.entries.items _ c.new-entries.ensures.items c.in_ok-rest.ensures
