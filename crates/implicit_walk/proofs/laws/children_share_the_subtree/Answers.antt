use Rattle.implicit_walk.specs.Places.{local_level}
use Rattle.implicit_walk.proofs.Knowing.{deeper}
use Rattle.implicit_walk.proofs.Subtrees.{same_subtree}
use Rattle.implicit_walk.proofs.laws.children_share_the_subtree.Goals as goal

pub returns : goal.returns
returns c root at g e =
    same_subtree root at (deeper at.level (local_level root.part at) g e)
