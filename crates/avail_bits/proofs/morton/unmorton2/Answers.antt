use Rattle.std.proofs.Common.{ap₂, ◌∙◌, arith}
use Rattle.avail_bits.proofs.Digits.{interleaved2-gather}
use Rattle.avail_bits.specs.Morton.{interleaved2}
use Rattle.avail_bits.proofs.morton.unmorton2.Goals as goal

pub returns-clause-inverse : goal.returns-clause-inverse
returns-clause-inverse c =
    ap₂ (interleaved2 21) c.gather2.ensures.value c.gather2-2.ensures.value
    ∙ interleaved2-gather 21 c.args.m (omega arith)
