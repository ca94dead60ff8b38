use Rattle.std.proofs.Common.{◌∙◌, ◌*◌, ◌^◌, ◌-◌, min, ap, sym, cond, Some, None}
use Rattle.json_decimal.proofs.Wholes.{scanned_digit, scanned_dropped, scanned_other, scanned_all}
use Rattle.json_decimal.proofs.places.size_of.Goals as goal
use Rattle.json_decimal.proofs.places.size_of.Goals.{
  then-is_ascii_digit+then-left-gt0,
  then-is_ascii_digit+else-left-gt0,
  else-is_ascii_digit,
}

pub loop-byte-preserved : goal.loop-byte-preserved
loop-byte-preserved c =
    let xs = c.args.mantissa.now in
    let l = c.loop-byte in
    elim c.if-is_ascii_digit.branch [
      | then-is_ascii_digit+then-left-gt0 w ↦
          rw (w.left-is, w.value-is, w.is_whole-is, w.with_wide_digit-value.ensures)
          (scanned_digit xs c.args.places l.byte-index l.left l.value (2 ^ 128 - 1) l.is_whole
          l.invariant c.loop-byte-test.true (cc) w.if-left-gt0.true)
      | then-is_ascii_digit+else-left-gt0 w ↦
          rw (w.left-is, w.value-is, w.is_whole-is)
          (scanned_dropped xs c.args.places l.byte-index l.left l.value (2 ^ 128 - 1) l.is_whole
          l.invariant c.loop-byte-test.true (cc) w.if-left-gt0.false)
      | else-is_ascii_digit w ↦
          rw (w.left-is, w.value-is, w.is_whole-is)
          (scanned_other xs c.args.places l.byte-index l.left l.value (2 ^ 128 - 1) l.is_whole
          l.invariant c.loop-byte-test.true (cc))
    ]

pub returns-then-is_whole : goal.returns-then-is_whole
returns-then-is_whole c =
    let l = c.loop-byte in
    ap Some c.with_zeros.ensures
    ∙ (ap (λ q. cond q (Some (min (l.value * 10 ^ l.left) (2 ^ 128 - 1))) None) (sym c.if-is_whole.true)
    ∙ scanned_all c.args.mantissa.now c.args.places l.byte-index l.left l.value (2 ^ 128 - 1)
    l.is_whole l.invariant c.loop-byte-test.false)

pub returns-else-is_whole : goal.returns-else-is_whole
returns-else-is_whole c =
    let l = c.loop-byte in
    ap (λ q. cond q (Some (min (l.value * 10 ^ l.left) (2 ^ 128 - 1))) None) (sym c.if-is_whole.false)
    ∙ scanned_all c.args.mantissa.now c.args.places l.byte-index l.left l.value (2 ^ 128 - 1)
    l.is_whole l.invariant c.loop-byte-test.false
