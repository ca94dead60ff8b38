use Rattle.std.proofs.Common.{ltb, leb, arith}
use Rattle.json_decimal.specs.Ascii.{digit_zero}
use Rattle.json_decimal.specs.Numbers.{is_other}
use Rattle.json_decimal.proofs.Lanes.{masked, either, below, at_least}
use Rattle.json_decimal.proofs.blocks.others_within.Goals as goal

pub returns : goal.returns
returns c =
    let v = c.args.bytes in
    let long = c.fits-bytes.0 in
    masked is_other v (omega arith)
    (either (λ b. ltb b digit_zero) (λ b. leb 0x3A b) v (below v 16 digit_zero long)
    (at_least v 16 0x3A long))
