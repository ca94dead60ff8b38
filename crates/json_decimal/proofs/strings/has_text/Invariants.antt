use Rattle.std.proofs.Common.{Bool, length}
use Rattle.json_decimal.specs.Strings.{TellsText}
use Rattle.json_decimal.proofs.strings.has_text.Given as goal

-- what tells the rest tells the whole
abbrev pub invariant-loop-behind : goal.invariant-loop-behind
invariant-loop-behind l = (b : Bool) → TellsText l.rest l.left b → TellsText l.bytes l.text b

abbrev pub decreases-loop-behind : goal.decreases-loop-behind
decreases-loop-behind l = length l.rest
