use Rattle.std.proofs.Common.{◌≡◌}
use Rattle.turn_rule.proofs.tests.take_turns.Given as goal

abbrev pub invariant-loop-k : goal.invariant-loop-k
invariant-loop-k g l = (l.pass.table ≡ l.initial.pass.table) × (l.pass.parts ≡ l.initial.pass.parts)
