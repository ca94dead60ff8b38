use Rattle.std.proofs.Common.{◌≡◌, length}
use Rattle.std.specs.String.{string_bytes}
use Rattle.json_decimal.specs.Strings.{with_text, string_at}
use Rattle.json_decimal.proofs.strings.text_at.Given as goal

abbrev pub invariant-loop-run : goal.invariant-loop-run
invariant-loop-run l = with_text (string_bytes l.text) (string_at l.rest) ≡ string_at l.bytes

abbrev pub decreases-loop-run : goal.decreases-loop-run
decreases-loop-run l = length l.rest
