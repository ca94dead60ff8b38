use Rattle.std.proofs.Common.{◌*◌, ◌<◌, refl, arith}
use Rattle.std.proofs.lemmas.Nat.{one_shl}
use Rattle.subtree_binary.specs.Counts.{tile_count}
use Rattle.implicit_walk.proofs.Powers.{power_of_four, power_of_eight}
use Rattle.implicit_walk.proofs.numbers.tiles_above.Goals as goal

pub returns-then-octree : goal.returns-then-octree
unfolding tile_count
returns-then-octree c =
    let within : 3 * c.args.level < 64 = omega (arith, c.requires) in
    rw (one_shl (3 * c.args.level) 64 within, power_of_eight c.args.level, c.if-octree.true) refl

pub returns-else-octree : goal.returns-else-octree
unfolding tile_count
returns-else-octree c =
    let within : 2 * c.args.level < 64 = omega (arith, c.requires) in
    rw (one_shl (2 * c.args.level) 64 within, power_of_four c.args.level, c.if-octree.false) refl
