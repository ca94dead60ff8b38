use Rattle.std.proofs.Common.{◌∙◌}
use Rattle.subtree_binary.specs.Counts.{child_count}
use Rattle.subtree_binary.proofs.Sizes.{few_children}
use Rattle.subtree_binary.proofs.counts.child_count.Goals as goal

pub pow-requires : goal.pow-requires
pow-requires c = rw (c.arity.ensures, c.from.ensures)
    (few_children c.args.octree c.args.levels c.requires)

pub returns : goal.returns
unfolding child_count
returns c = c.pow.ensures ∙ rw (c.arity.ensures, c.from.ensures)
