use Rattle.std.proofs.Common.{ap, refl, ◌∙◌, arith}
use Rattle.avail_bits.proofs.Linear.{shl_step, same, spread_linear, same_by_test}
use Rattle.avail_bits.specs.Spread.{spread}
use Rattle.avail_bits.proofs.spread.spread2.Goals as goal

pub returns : goal.returns
unfolding spread
returns c =
    same_by_test _ (spread 4 21) 21
    (shl_step _ 1 0x5555_5555_5555_5555
    (shl_step _ 2 0x3333_3333_3333_3333
    (shl_step _ 4 0x0F0F_0F0F_0F0F_0F0F
    (shl_step _ 8 0x00FF_00FF_00FF_00FF (shl_step _ 16 0x0000_FFFF_0000_FFFF same)))))
    (spread_linear 1 21) refl c.from-wide.result (omega arith)
    ∙ ap (spread 4 21) c.from-wide.ensures
