use Rattle.std.proofs.Common.{length}
use Rattle.json_decimal.proofs.Shorts.{IsBefore}
use Rattle.json_decimal.proofs.strings.plain_ascii_string_len.Given as goal

abbrev pub invariant-loop-block : goal.invariant-loop-block
invariant-loop-block l = IsBefore l.bytes l.rest l.count

abbrev pub decreases-loop-block : goal.decreases-loop-block
decreases-loop-block l = length l.rest
