use Rattle.std.proofs.Common.{◌≤◌, ◌∷◌, [], length, refl, arith}
use Rattle.std.proofs.lemmas.Bool.{leb-true, le-leb}
use Rattle.std.specs.Prelude.{None, false}
use Rattle.tile_types.specs.declared.key.Key.{Key}
use Rattle.tile_types.specs.declared.refine.Refine.TheVariants.{Replace}
use Rattle.expanded_tree.specs.Tree.{Tree, pending}
use Rattle.cut_core.proofs.Fans.{has_child, child_at}
use Rattle.cut_core.proofs.tests.waiting.WaitingTileTree.child.Goals as goal

abbrev leaf : Key → Tree
leaf k =
    pending []
    (record { volume = None; request = None; error = 9; refine = Replace; external = false }) k

pub returns-clause-valid : goal.returns-clause-valid
returns-clause-valid c =
    let tree = c.args.self.now in
    let within : c.args._node.number ≤ length tree.keys.items =
    omega (arith, leb-true _ _ c.requires.valid, tree.keys.ok.0) in
    let here = has_child leaf (λ x. refl) tree.root.name tree.root.facts
    (tree.root.address ∷ []) tree.keys.items c.args._node.number c.args.i within
    c.requires.within in
    le-leb _ _ (omega (arith, here.1, c.from.ensures, tree.keys.ok.0))

pub returns-clause-tree : goal.returns-clause-tree
returns-clause-tree c =
    let tree = c.args.self.now in
    let within : c.args._node.number ≤ length tree.keys.items =
    omega (arith, leb-true _ _ c.requires.valid, tree.keys.ok.0) in
    child_at leaf (λ x. refl) tree.root.name tree.root.facts
    (tree.root.address ∷ []) tree.keys.items c.args._node.number c.args.i _ within
    c.requires.within (omega (arith, c.from.ensures))
