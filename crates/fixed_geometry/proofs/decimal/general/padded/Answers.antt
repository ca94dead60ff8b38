use Rattle.std.proofs.Common.{arith, ◌∙◌, ◌*◌, ◌^◌, ◌-◌, min, ap}
use Rattle.fixed_geometry.proofs.Decimals.{pad_step, pad_full}
use Rattle.fixed_geometry.proofs.decimal.general.padded.Goals as goal
use Rattle.fixed_geometry.specs.declared.decimal.general.TheConstants.{TENFOLD_CEILING}

pub loop-left-preserved : goal.loop-left-preserved
loop-left-preserved c = record {
  clamped = omega (arith, c.min-value.ensures);
  same =
      ap (λ x. min (x * 10 ^ (c.loop-left.left - 1)) TENFOLD_CEILING) c.min-value.ensures
      ∙ (pad_step c.loop-left.value c.loop-left.left TENFOLD_CEILING c.loop-left-test.true
      ∙ c.loop-left.invariant.same);
}

pub returns-else-value-lt-TENFOLD_CEILING : goal.returns-else-value-lt-TENFOLD_CEILING
returns-else-value-lt-TENFOLD_CEILING c =
    pad_full c.loop-left.value c.loop-left.left TENFOLD_CEILING
    (omega (arith, c.loop-left.invariant.clamped)) ∙ c.loop-left.invariant.same
