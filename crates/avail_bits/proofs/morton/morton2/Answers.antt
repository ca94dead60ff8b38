use Rattle.std.proofs.Common.{arith}
use Rattle.avail_bits.proofs.Digits.{interleaved2_is, spread4_below}
use Rattle.avail_bits.proofs.morton.morton2.Goals as goal

pub overflow_add-result : goal.overflow_add-result
overflow_add-result c =
    omega (
      arith,
      spread4_below 21 c.args.x,
      spread4_below 21 c.args.y,
      c.spread2.ensures,
      c.spread2-2.ensures,
    )

pub returns-clause-value : goal.returns-clause-value
returns-clause-value c =
    omega (
      arith,
      spread4_below 21 c.args.y,
      c.spread2.ensures,
      c.spread2-2.ensures,
      interleaved2_is
          21 c.args.x c.args.y,
    )

pub returns-clause-within : goal.returns-clause-within
returns-clause-within c =
    omega (
      arith,
      spread4_below 21 c.args.x,
      spread4_below 21 c.args.y,
      c.spread2.ensures,
      c.spread2-2.ensures,
    )
