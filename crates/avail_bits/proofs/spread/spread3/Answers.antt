use Rattle.std.proofs.Common.{ap, refl, ◌∙◌, arith}
use Rattle.avail_bits.proofs.Linear.{shl_step, same, spread_linear, same_by_test}
use Rattle.avail_bits.specs.Spread.{spread}
use Rattle.avail_bits.proofs.spread.spread3.Goals as goal

pub returns : goal.returns
unfolding spread
returns c =
    same_by_test _ (spread 8 21) 21
    (shl_step _ 2 0x1249_2492_4924_9249
    (shl_step _ 4 0x10C3_0C30_C30C_30C3
    (shl_step _ 8 0x100F_00F0_0F00_F00F (shl_step _ 16 0x001F_0000_FF00_00FF
    (shl_step _ 32 0x001F_0000_0000_FFFF same)))))
    (spread_linear 2 21) refl c.from-wide.result (omega arith)
    ∙ ap (spread 8 21) c.from-wide.ensures
