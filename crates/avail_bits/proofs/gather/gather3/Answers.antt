use Rattle.std.proofs.Common.{refl, arith}
use Rattle.avail_bits.proofs.Linear.{shr_step, and_step, gather_linear, same_by_test}
use Rattle.avail_bits.specs.Spread.{gather}
use Rattle.avail_bits.proofs.gather.gather3.Goals as goal

pub returns-clause-value : goal.returns-clause-value
unfolding gather
returns-clause-value c =
    same_by_test _ (gather 8 21) 63
    (shr_step _ 32 0x1F_FFFF
    (shr_step _ 16 0x001F_0000_0000_FFFF
    (shr_step _ 8 0x001F_0000_FF00_00FF
    (shr_step _ 4 0x100F_00F0_0F00_F00F
    (shr_step _ 2 0x10C3_0C30_C30C_30C3 (and_step 0x1249_2492_4924_9249))))))
    (gather_linear 3 21) refl c.args.m (omega arith)
