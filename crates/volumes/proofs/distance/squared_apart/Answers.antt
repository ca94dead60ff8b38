use Rattle.std.proofs.Common.{arith, ap}
use Rattle.fixed_geometry.specs.Points.{norm}
use Rattle.volumes.proofs.Gaps.{difference_within, squared_apart_size}
use Rattle.volumes.proofs.distance.squared_apart.Goals as goal

pub norm-requires : goal.norm-requires
norm-requires c = difference_within c.args.p c.args.q c.minus.result c.minus.ensures c.requires.p
    c.requires.q

pub returns-clause-bound : goal.returns-clause-bound
returns-clause-bound c =
    omega (
      arith,
      c.norm.ensures.value,
      ap norm c.minus.ensures,
      squared_apart_size c.args.p c.args.q c.requires.p c.requires.q,
    )
