use Rattle.std.proofs.Common.{arith}
use Rattle.std.proofs.lemmas.Int.{ints, to_z-of_z}
use Rattle.volumes.proofs.Gaps.{straight_x, straight_y, straight_z}
use Rattle.volumes.proofs.distance.gap.Goals as goal

pub returns-then-axis-eq0-2-clause-value : goal.returns-then-axis-eq0-2-clause-value
returns-then-axis-eq0-2-clause-value c =
    let value = straight_x c.args.q c.args.axis (omega (arith, ints)) (omega (arith, ints)) in
    grind (arith, to_z-of_z)

pub returns-then-axis-eq0-4-clause-value : goal.returns-then-axis-eq0-4-clause-value
returns-then-axis-eq0-4-clause-value c =
    let value = straight_y c.args.q c.args.axis (omega (arith, ints)) (omega (arith, ints)) in
    grind (arith, to_z-of_z)

pub returns-then-axis-eq0-6-clause-value : goal.returns-then-axis-eq0-6-clause-value
returns-then-axis-eq0-6-clause-value c =
    let value = straight_z c.args.q c.args.axis (omega (arith, ints)) (omega (arith, ints)) in
    grind (arith, to_z-of_z)
