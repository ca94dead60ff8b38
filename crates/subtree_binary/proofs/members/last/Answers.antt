use Rattle.std.proofs.Common.{◌∙◌}
use Rattle.json_decimal.specs.Handles.{json_of, text_in, members_left}
use Rattle.subtree_binary.specs.Seen.{value_seen}
use Rattle.subtree_binary.proofs.Lasts.{one_last}
use Rattle.subtree_binary.proofs.members.last.Goals as goal

pub loop-key-preserved : goal.loop-key-preserved
loop-key-preserved c =
    rw c.put_at.ensures
    (one_last c.args.name.now (value_seen c.loop-key.found) (members_left c.loop-key.rest)
    (members_left c.next.new.self) (text_in c.in-Some.key, json_of c.in-Some.value)
    c.in-Some.ensures
    ∙ c.loop-key.invariant)
