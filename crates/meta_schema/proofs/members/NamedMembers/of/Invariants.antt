use Rattle.std.proofs.Common.{◌≡◌, take}
use Rattle.json_decimal.specs.JsonValue.{pairs_of}
use Rattle.meta_schema.specs.Members.{effective_members}
use Rattle.meta_schema.specs.Seen.{members_seen}
use Rattle.meta_schema.proofs.members.NamedMembers.of.Given as goal

-- those so far are the effective ones so far
abbrev pub invariant-loop-pair : goal.invariant-loop-pair
invariant-loop-pair l =
    members_seen l.values.entries ≡ effective_members (take l.pair-index (pairs_of l.object))
