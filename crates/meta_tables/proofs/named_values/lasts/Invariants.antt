use Rattle.std.proofs.Common.{◌≡◌, ℕ, List, length, bytes_eq}
use Rattle.indexmap.specs.IndexMap.{get}
use Rattle.json_decimal.specs.Handles.{members_left}
use Rattle.json_decimal.specs.JsonValue.{later, last_of}
use Rattle.subtree_binary.specs.Seen.{value_seen}
use Rattle.meta_tables.proofs.named_values.lasts.Given as goal

abbrev pub invariant-loop-name : goal.invariant-loop-name
invariant-loop-name l =
    (name : List ℕ)
    → later (last_of name (members_left l.rest)) (value_seen (get bytes_eq l.values name))
    ≡ last_of name (members_left l.members)

abbrev pub decreases-loop-name : goal.decreases-loop-name
decreases-loop-name l = length (members_left l.rest)
