use Rattle.std.proofs.Common.{◌∙◌, length, sym}
use Rattle.implicit_walk.specs.Places.{subtree_root}
use Rattle.implicit_walk.specs.Roots.{address_at}
use Rattle.implicit_walk.proofs.Knowing.{kind_of_subtree}
use Rattle.implicit_walk.proofs.presence.exists_in_own.Goals as goal

pub has_tile-requires-clause-subtree : goal.has_tile-requires-clause-subtree
has_tile-requires-clause-subtree g c =
    let root = c.args.root.now in
    c.in-Some-subtree.ensures.counts root.part.octree root.part.subtree_levels
    (length root.part.contents)
    (kind_of_subtree root.part
    (address_at root root.part.subtrees (subtree_root root.part c.args.at)) c.in-Some.key
    (sym c.in_ok-key.ensures ∙ c.in-Some.is))
