use Rattle.std.proofs.Common.{arith}
use Rattle.volumes.proofs.RootBounds.{root_of_80_bits}
use Rattle.volumes.proofs.volume.Volume.distance.Goals as goal

pub returns-in-Ball-clause-bound : goal.returns-in-Ball-clause-bound
returns-in-Ball-clause-bound c =
    omega (
      arith,
      c.root_floor-apart.ensures.value,
      root_of_80_bits c.squared_apart.result c.squared_apart.ensures.bound,
    )
