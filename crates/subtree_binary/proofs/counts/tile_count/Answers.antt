use Rattle.std.proofs.Common.{refl}
use Rattle.subtree_binary.specs.Counts.{child_count, tile_count}
use Rattle.subtree_binary.proofs.Sizes.{some_children}
use Rattle.subtree_binary.proofs.counts.tile_count.Goals as goal

pub overflow_sub-result : goal.overflow_sub-result
unfolding child_count
overflow_sub-result c = rw c.child_count.ensures (some_children c.args.octree c.args.levels)

pub returns : goal.returns
unfolding child_count tile_count
returns c = rw (c.child_count.ensures, c.arity.ensures) refl
