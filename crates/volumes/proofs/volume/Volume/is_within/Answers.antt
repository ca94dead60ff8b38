use Rattle.std.proofs.Common.{arith}
use Rattle.std.proofs.lemmas.Grind.{common_steps}
use Rattle.fixed_geometry.specs.Root.{floor_root}
use Rattle.volumes.proofs.RootBounds.{root_fits, root_of_80_bits, reach_test}
use Rattle.volumes.proofs.volume.Volume.is_within.Goals as goal

pub returns-in-Oriented-clause-bound : goal.returns-in-Oriented-clause-bound
returns-in-Oriented-clause-bound c =
    let root = root_of_80_bits c.squared_gaps.result c.squared_gaps.ensures.bound in
    grind (arith, common_steps)

pub returns-in-Ball-clause-value : goal.returns-in-Ball-clause-value
returns-in-Ball-clause-value c =
    let n = c.squared_apart.result in
    let test = reach_test (floor_root n) c.unsigned_abs.result c.args.bound
    (root_fits n c.squared_apart.type_inv) in
    grind (arith, common_steps)

pub returns-in-Ball-clause-bound : goal.returns-in-Ball-clause-bound
returns-in-Ball-clause-bound c =
    let root = root_of_80_bits c.squared_apart.result c.squared_apart.ensures.bound in
    grind (arith, common_steps)
