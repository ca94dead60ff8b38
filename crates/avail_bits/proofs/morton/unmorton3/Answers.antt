use Rattle.std.proofs.Common.{arith}
use Rattle.avail_bits.proofs.Digits.{interleaved3-gather}
use Rattle.avail_bits.proofs.morton.unmorton3.Goals as goal

pub returns-clause-inverse : goal.returns-clause-inverse
returns-clause-inverse c =
    rw (c.gather3.ensures.value, c.gather3-2.ensures.value, c.gather3-3.ensures.value)
    (interleaved3-gather 21 c.args.m (omega arith))
