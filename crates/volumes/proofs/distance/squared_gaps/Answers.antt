use Rattle.std.proofs.Common.{arith, ◌+◌, ◌<◌, ◌^◌}
use Rattle.volumes.proofs.Gaps.{three_squares}
use Rattle.volumes.proofs.distance.squared_gaps.Goals as goal

pub returns-clause-bound : goal.returns-clause-bound
returns-clause-bound c =
    omega (
      arith,
      c.squared.ensures,
      c.squared-2.ensures,
      c.squared-3.ensures,
      three_squares c.gap.result c.gap-2.result c.gap-3.result c.gap.ensures.bound
          c.gap-2.ensures.bound c.gap-3.ensures.bound,
    )

pub overflow_add-result-2 : goal.overflow_add-result-2
overflow_add-result-2 c =
    let small : c.squared.result + c.squared-2.result + c.squared-3.result < 2 ^ 128 =
    omega (arith, returns-clause-bound c) in
    record { fits = small }
