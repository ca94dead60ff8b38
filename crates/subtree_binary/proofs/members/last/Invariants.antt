use Rattle.std.proofs.Common.{◌≡◌, length}
use Rattle.json_decimal.specs.Handles.{members_left}
use Rattle.json_decimal.specs.JsonValue.{later, last_of}
use Rattle.subtree_binary.specs.Seen.{value_seen}
use Rattle.subtree_binary.proofs.members.last.Given as goal

abbrev pub invariant-loop-key : goal.invariant-loop-key
invariant-loop-key l = later (last_of l.name (members_left l.rest)) (value_seen l.found)
    ≡ last_of l.name (members_left l.members)

abbrev pub decreases-loop-key : goal.decreases-loop-key
decreases-loop-key l = length (members_left l.rest)
