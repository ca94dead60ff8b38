use Rattle.implicit_walk.proofs.Counts.{child_subtree_below}
use Rattle.implicit_walk.proofs.numbers.child_subtree_number.Goals as goal

pub returns-clause-within : goal.returns-clause-within
returns-clause-within c =
    rw (
      c.morton.ensures,
      c.octree.ensures,
      c.below.ensures,
      c.subtree_levels.ensures.value,
      c.part-part.ensures.value,
    )
    (child_subtree_below c.args.root.now.part c.args.at)
