use Rattle.std.proofs.Common.{arith}
use Rattle.std.proofs.lemmas.Int.{ints, to_z-of_z}
use Rattle.fixed_geometry.proofs.Sizes.{fits_sum}
use Rattle.volumes.proofs.cells.long_component.Goals as goal

pub overflow_add-from : goal.overflow_add-from
overflow_add-from c = fits_sum c.from-2.result c.half-shift.result (omega (arith, ints))
    (omega (arith, ints))

pub returns-clause-value : goal.returns-clause-value
returns-clause-value c = grind (arith, to_z-of_z)
