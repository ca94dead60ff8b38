use Rattle.std.proofs.Common.{◌≡◌, length}
use Rattle.json_decimal.specs.Handles.{members_left}
use Rattle.json_decimal.specs.Named.{plain, seen}
use Rattle.json_decimal.proofs.NamedValues.{with_members}
use Rattle.json_decimal.proofs.json_members.JsonMembers.last_named.Given as goal

abbrev pub invariant-loop-name : goal.invariant-loop-name
invariant-loop-name l =
    with_members (plain l.names) (seen l.values) (members_left l.rest)
    ≡ with_members (plain l.names) (seen l.fn.values) (members_left l.self)

abbrev pub decreases-loop-name : goal.decreases-loop-name
decreases-loop-name l = length (members_left l.rest)
