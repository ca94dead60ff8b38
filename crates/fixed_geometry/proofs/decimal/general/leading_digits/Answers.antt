use Rattle.std.proofs.Common.{arith, ◌∙◌}
use Rattle.fixed_geometry.proofs.Decimals.{led_digit, led_dropped, led_other, led_all}
use Rattle.fixed_geometry.proofs.decimal.general.leading_digits.Goals as goal
use Rattle.fixed_geometry.proofs.decimal.general.leading_digits.Goals.{
  then-is_ascii_digit+then-left-gt0,
}
use Rattle.fixed_geometry.proofs.decimal.general.leading_digits.Goals.{else-is_ascii_digit}
use Rattle.fixed_geometry.proofs.decimal.general.leading_digits.Goals.{
  else-is_ascii_digit-via-then-is_ascii_digit+else-left-gt0,
}
use Rattle.fixed_geometry.proofs.decimal.general.leading_digits.Goals.{
  else-is_ascii_digit-via-else-is_ascii_digit,
}
use Rattle.fixed_geometry.specs.declared.decimal.general.TheConstants.{TENFOLD_CEILING}

pub loop-byte-preserved : goal.loop-byte-preserved
loop-byte-preserved c =
    elim c.if-is_ascii_digit.branch [
      | then-is_ascii_digit+then-left-gt0 w ↦
          rw (w.left-is, w.value-is, w.min-value.ensures, w.from.ensures)
          (led_digit c.args.mantissa.now c.args.keep c.loop-byte.byte-index c.loop-byte.left
          c.loop-byte.value TENFOLD_CEILING c.loop-byte.invariant c.loop-byte-test.true (cc)
          w.if-left-gt0.true)
      | else-is_ascii_digit w ↦
          elim w.else-is_ascii_digit.branch [
            | else-is_ascii_digit-via-then-is_ascii_digit+else-left-gt0 v ↦
                rw (w.left-is, w.value-is)
                (led_dropped c.args.mantissa.now c.args.keep c.loop-byte.byte-index c.loop-byte.left
                c.loop-byte.value TENFOLD_CEILING c.loop-byte.invariant c.loop-byte-test.true (cc)
                v.if-left-gt0.false)
            | else-is_ascii_digit-via-else-is_ascii_digit v ↦
                rw (w.left-is, w.value-is)
                (led_other c.args.mantissa.now c.args.keep c.loop-byte.byte-index c.loop-byte.left
                c.loop-byte.value TENFOLD_CEILING c.loop-byte.invariant c.loop-byte-test.true (cc))
          ]
    ]

pub returns : goal.returns
returns c = c.padded.ensures ∙ led_all c.args.mantissa.now c.args.keep c.loop-byte.byte-index
    c.loop-byte.left c.loop-byte.value TENFOLD_CEILING c.loop-byte.invariant (omega arith)
