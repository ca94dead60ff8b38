use Rattle.fixed_geometry.proofs.Spellings.{IsRead}
use Rattle.fixed_geometry.proofs.decimal.common.read_digits.Given as goal

abbrev pub invariant-loop-i : goal.invariant-loop-i
invariant-loop-i l = IsRead l.number l.i l.value l.tail
