use Rattle.std.proofs.Common.{arith, w64}
use Rattle.std.proofs.lemmas.Int.{ints, fits_signed_from_abs, to_z-of_z}
use Rattle.volumes.specs.declared.cells.TheConstants.{SHORT_LEVEL}
use Rattle.volumes.proofs.ShiftedSizes.{within_deeper}
use Rattle.volumes.proofs.cells.centre_component.Goals as goal

pub short_dot-requires-clause-offsets : goal.short_dot-requires-clause-offsets
short_dot-requires-clause-offsets c =
    within_deeper c.args.offsets c.args.level SHORT_LEVEL (omega arith) c.requires.offsets

pub overflow_add-from : goal.overflow_add-from
overflow_add-from c = fits_signed_from_abs w64 _ (omega (arith, ints))

pub returns-then-level-le-SHORT_LEVEL-clause-value : goal.returns-then-level-le-SHORT_LEVEL-clause-value
returns-then-level-le-SHORT_LEVEL-clause-value c = grind (arith, to_z-of_z)
