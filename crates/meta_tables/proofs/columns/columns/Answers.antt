use Rattle.std.proofs.Common.{ap, ◌∙◌}
use Rattle.json_decimal.specs.Handles.{json_of}
use Rattle.json_decimal.specs.JsonValue.{last_of}
use Rattle.subtree_binary.specs.StorageSeen.{storage_seen}
use Rattle.meta_tables.specs.Seen.{members_seen}
use Rattle.meta_tables.proofs.Owned.{column_more}
use Rattle.meta_tables.proofs.columns.columns.Goals as goal

pub loop-property-preserved-in_ok-push : goal.loop-property-preserved-in_ok-push
loop-property-preserved-in_ok-push c =
    let members = members_seen c.args.members in
    column_more c.args.schema.now (storage_seen c.args.storage.now) c.args.count members
    c.loop-property.rest.now c.in-Some.behind.now c.in-Some.property.now
    (json_of c.in-Some-value_named.value) c.loop-property.columns.items c.push.new.self.items
    c.in_ok-read_column.field-0 c.in-Some.ensures.cases.0
    (c.in-Some-value_named.ensures ∙ c.in_ok-values.ensures c.name.result.now
    ∙ ap (λ name. last_of name members) c.name.ensures)
    c.in_ok-read_column.ensures c.in_ok-push.ensures.items
    ∙ c.loop-property.invariant
