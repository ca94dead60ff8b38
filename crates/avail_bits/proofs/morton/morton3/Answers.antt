use Rattle.std.proofs.Common.{arith}
use Rattle.avail_bits.proofs.Digits.{interleaved3_is, spread8_below}
use Rattle.avail_bits.proofs.morton.morton3.Goals as goal

pub overflow_add-result : goal.overflow_add-result
overflow_add-result c =
    omega (
      arith,
      spread8_below 21 c.args.x,
      spread8_below 21 c.args.y,
      c.spread3.ensures,
      c.spread3-2.ensures,
    )

pub overflow_add-result-2 : goal.overflow_add-result-2
overflow_add-result-2 c =
    omega (
      arith,
      spread8_below 21 c.args.x,
      spread8_below 21 c.args.y,
      spread8_below 21 c.args.z,
      c.spread3.ensures,
      c.spread3-2.ensures,
      c.spread3-3.ensures,
    )

pub returns-clause-value : goal.returns-clause-value
returns-clause-value c =
    omega (
      arith,
      spread8_below 21 c.args.x,
      spread8_below 21 c.args.y,
      spread8_below 21 c.args.z,
      c.spread3.ensures,
      c.spread3-2.ensures,
      c.spread3-3.ensures,
      interleaved3_is 21 c.args.x
          c.args.y c.args.z,
    )

pub returns-clause-within : goal.returns-clause-within
returns-clause-within c =
    omega (
      arith,
      spread8_below 21 c.args.x,
      spread8_below 21 c.args.y,
      spread8_below 21 c.args.z,
      c.spread3.ensures,
      c.spread3-2.ensures,
      c.spread3-3.ensures,
    )
