use Rattle.std.proofs.Common.{◌≡◌, ◌+◌, ◌<◌, ◌∙◌, true, refl, sym, ap, arith}
use Rattle.subtree_binary.specs.Counts.{arity}
use Rattle.tileset_schema.specs.Implicit.{ImplicitParts}
use Rattle.implicit_walk.proofs.Children.{all_children}
use Rattle.implicit_walk.proofs.Sizes.{places_to}
use Rattle.implicit_walk.proofs.implicit_root.child_places.Goals as goal

pub octants-requires-clause-x : goal.octants-requires-clause-x
octants-requires-clause-x c =
    let small = places_to c.args.root.now.part c.args.at c.part-part.ensures.within.levels
    c.requires in omega (arith, small.x)

pub octants-requires-clause-y : goal.octants-requires-clause-y
octants-requires-clause-y c =
    let small = places_to c.args.root.now.part c.args.at c.part-part.ensures.within.levels
    c.requires in omega (arith, small.y)

pub octants-requires-clause-z : goal.octants-requires-clause-z
octants-requires-clause-z c =
    let small = places_to c.args.root.now.part c.args.at c.part-part.ensures.within.levels
    c.requires in omega (arith, small.z)

pub quadrants-requires-clause-x : goal.quadrants-requires-clause-x
quadrants-requires-clause-x c =
    let small = places_to c.args.root.now.part c.args.at c.part-part.ensures.within.levels
    c.requires in omega (arith, small.x)

pub quadrants-requires-clause-y : goal.quadrants-requires-clause-y
quadrants-requires-clause-y c =
    let small = places_to c.args.root.now.part c.args.at c.part-part.ensures.within.levels
    c.requires in omega (arith, small.y)

pub returns-then-octree-clause-children : goal.returns-then-octree-clause-children
returns-then-octree-clause-children c =
    let part = c.args.root.now.part in
    let octree : part.octree ≡ true =
    ap (λ (p : ImplicitParts). p.octree) (sym c.part-part.ensures.value)
    ∙ sym c.octree.ensures ∙ c.if-octree.true in
    let eight : 8 ≡ arity part.octree = rw octree refl in
    let more : c.args.at.level + 1 < part.available_levels =
    rw (c.available_levels.ensures.value, c.part-part.ensures.value)
    at c.if-available_levels-at.false in
    rw c.octants.ensures
    (λ k d h. all_children part c.args.at 8 k d c.requires more eight h)
