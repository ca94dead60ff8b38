use Rattle.std.proofs.Common.{◌∙◌, IfSome, Option, Some, None, length, sym}
use Rattle.implicit_walk.specs.Places.{subtree_root}
use Rattle.implicit_walk.specs.Roots.{address_at}
use Rattle.implicit_walk.proofs.Knowing.{kind_of_subtree}
use Rattle.implicit_walk.proofs.presence.subtree_at.Goals as goal

-- what holds of what there is gives another thing of it
further : {A : Type 0} {P Q : A → Type 0} → ((a : A) → P a → Q a) → (o : Option A) → IfSome o P
    → IfSome o Q
further f None h = h
further f (Some a) h = f a h

pub returns-in-Some-clause-of_root : goal.returns-in-Some-clause-of_root
returns-in-Some-clause-of_root g c =
    let root = c.args.root.now in
    let kind = kind_of_subtree root.part
    (address_at root root.part.subtrees (subtree_root root.part c.args.at)) c.in-Some.key
    (sym c.in_ok-key.ensures ∙ c.in-Some.is) in
    further (λ s counts. counts root.part.octree root.part.subtree_levels
    (length root.part.contents) kind) c.subtree.result c.subtree.ensures.counts
