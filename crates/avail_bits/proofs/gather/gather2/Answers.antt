use Rattle.std.proofs.Common.{refl, arith}
use Rattle.avail_bits.proofs.Linear.{shr_step, and_step, gather_linear, same_by_test}
use Rattle.avail_bits.specs.Spread.{gather}
use Rattle.avail_bits.proofs.gather.gather2.Goals as goal

pub returns-clause-value : goal.returns-clause-value
unfolding gather
returns-clause-value c =
    same_by_test _ (gather 4 21) 42
    (shr_step _ 16 0x1F_FFFF
    (shr_step _ 8 0x0000_FFFF_0000_FFFF
    (shr_step _ 4 0x00FF_00FF_00FF_00FF
    (shr_step _ 2 0x0F0F_0F0F_0F0F_0F0F
    (shr_step _ 1 0x3333_3333_3333_3333 (and_step 0x5555_5555_5555_5555))))))
    (gather_linear 2 21) refl c.args.m (omega arith)
