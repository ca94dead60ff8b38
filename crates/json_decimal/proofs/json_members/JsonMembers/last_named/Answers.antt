use Rattle.std.proofs.Common.{◌∙◌, ap}
use Rattle.json_decimal.specs.Handles.{json_of, text_in, members_left}
use Rattle.json_decimal.specs.Named.{plain, seen, lasts}
use Rattle.json_decimal.proofs.NamedValues.{members_step, members_done, lasts-fresh}
use Rattle.json_decimal.proofs.json_members.JsonMembers.last_named.Goals as goal

pub loop-name-preserved : goal.loop-name-preserved
loop-name-preserved c =
    members_step (plain c.args.names.now) (seen c.loop-name.values) (seen c.put.new.values)
    (members_left c.loop-name.rest) (members_left c.next.new.self)
    (text_in c.in-Some.name, json_of c.in-Some.value) c.in-Some.ensures c.put.ensures
    ∙ c.loop-name.invariant

pub returns-clause-values : goal.returns-clause-values
returns-clause-values c =
    members_done (plain c.args.names.now) (seen c.loop-name.values) (seen c.args.values.now)
    (members_left c.loop-name.rest) (members_left c.args.self) c.in_default.ensures
    c.loop-name.invariant

pub returns-clause-fresh : goal.returns-clause-fresh
returns-clause-fresh c h =
    members_done (plain c.args.names.now) (seen c.loop-name.values) (seen c.args.values.now)
    (members_left c.loop-name.rest) (members_left c.args.self) c.in_default.ensures
    c.loop-name.invariant
    ∙ ap (λ old. lasts (plain c.args.names.now) old (members_left c.args.self)) h
    ∙ lasts-fresh (plain c.args.names.now) (members_left c.args.self)
