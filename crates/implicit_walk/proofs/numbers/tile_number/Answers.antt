use Rattle.std.proofs.Common.{◌≡◌, ◌+◌, refl, arith}
use Rattle.implicit_walk.specs.Places.{number_in_subtree}
use Rattle.implicit_walk.proofs.Counts.{in_subtree_below, few_tiles}
use Rattle.implicit_walk.proofs.Sizes.{subtree_levels_to}
use Rattle.implicit_walk.proofs.numbers.tile_number.Goals as goal

number : (c : goal.After-morton)
    → c.tiles_above.result + c.morton.result ≡ number_in_subtree c.args.root.now.part c.args.at
number c =
    rw (
      c.tiles_above.ensures,
      c.morton.ensures,
      c.octree-octree.ensures,
      c.below-local.ensures,
      c.local_level.ensures.value,
      c.part.ensures.value,
    )
    refl

pub returns-clause-within : goal.returns-clause-within
returns-clause-within c =
    rw (number c)
    (in_subtree_below c.args.root.now.part c.args.at
    c.part.ensures.within.levels.some_subtree)

pub overflow_add-result : goal.overflow_add-result
overflow_add-result c =
    let part = c.args.root.now.part in
    let levels = c.part.ensures.within.levels in
    rw (number c)
    (omega (
      arith,
      in_subtree_below part c.args.at levels.some_subtree,
      few_tiles part.octree part.subtree_levels (subtree_levels_to part levels),
    ))
