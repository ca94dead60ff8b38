use Rattle.std.proofs.Common.{arith, ◌∙◌, ◌*◌, ◌^◌, ap, sym}
use Rattle.fixed_geometry.specs.Quotient.{half_size}
use Rattle.fixed_geometry.proofs.Decimals.{digit_fits}
use Rattle.fixed_geometry.proofs.Spellings.{more_digit, more_point, all_sign, all_size}
use Rattle.fixed_geometry.proofs.decimal.common.read_digits.Goals as goal
use Rattle.fixed_geometry.proofs.decimal.common.read_digits.Goals.{then-digit-le9}
use Rattle.fixed_geometry.proofs.decimal.common.read_digits.Goals.{
  else-digit-le9+then-byte-eq46+then-tail-eq0,
}

pub overflow_mul-value : goal.overflow_mul-value
overflow_mul-value c =
    let fits = digit_fits c.loop-i.value c.loop-i.i c.loop-i.invariant.bound (omega arith) in
    record { fits = omega arith }

pub overflow_add-value : goal.overflow_add-value
overflow_add-value c =
    let fits = digit_fits c.loop-i.value c.loop-i.i c.loop-i.invariant.bound (omega arith) in
    record { fits = omega arith }

pub loop-i-preserved : goal.loop-i-preserved
loop-i-preserved c =
    elim c.if-digit-le9.branch [
      | then-digit-le9 w ↦
          rw (w.tail-is, w.value-is, c.digit_of-digit.ensures.value w.if-digit-le9.true)
          (more_digit c.args.number.now c.loop-i.i c.loop-i.value c.loop-i.tail
          c.loop-i.invariant c.loop-i-test.true
          (c.digit_of-digit.ensures.digit.1 w.if-digit-le9.true))
      | else-digit-le9+then-byte-eq46+then-tail-eq0 w ↦
          rw (w.tail-is, w.value-is)
          (more_point c.args.number.now c.loop-i.i c.loop-i.value c.loop-i.tail
          c.loop-i.invariant w.if-tail-eq0.true c.loop-i-test.true w.if-byte-eq46.true)
    ]

pub returns-clause-number : goal.returns-clause-number
returns-clause-number c =
    let t = c.args.number.now in
    record {
      sign = λ negative. all_sign t c.loop-i.i c.loop-i.value c.loop-i.tail negative
          c.loop-i.invariant c.loop-i-test.false;
      size = λ negative places.
          all_size t c.loop-i.i c.loop-i.value c.loop-i.tail negative places c.loop-i.invariant
          c.loop-i-test.false
          ∙ ap (λ n. half_size (c.loop-i.value * 10 ^ places) (10 ^ n))
          (sym c.saturating_sub.ensures);
    }
