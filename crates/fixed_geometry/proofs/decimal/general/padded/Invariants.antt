use Rattle.std.proofs.Common.{◌≡◌, ◌*◌, ◌^◌, ◌≤◌, min}
use Rattle.fixed_geometry.proofs.decimal.general.padded.Given as goal
use Rattle.fixed_geometry.specs.declared.decimal.general.TheConstants.{TENFOLD_CEILING}

abbrev pub invariant-loop-left : goal.invariant-loop-left
invariant-loop-left l = record {
  clamped : l.value ≤ TENFOLD_CEILING;
  same : min (l.value * 10 ^ l.left) TENFOLD_CEILING
      ≡ min (l.initial.value * 10 ^ l.initial.left) TENFOLD_CEILING;
}

abbrev pub decreases-loop-left : goal.decreases-loop-left
decreases-loop-left l = l.left
