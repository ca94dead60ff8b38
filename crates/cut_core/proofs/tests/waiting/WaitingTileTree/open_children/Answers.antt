use Rattle.std.proofs.Common.{◌≤◌, ◌∙◌, ◌∷◌, [], length, refl, sym, arith}
use Rattle.std.proofs.lemmas.Bool.{leb-true}
use Rattle.std.specs.Prelude.{None, false}
use Rattle.tile_types.specs.declared.key.Key.{Key}
use Rattle.tile_types.specs.declared.refine.Refine.TheVariants.{Replace}
use Rattle.expanded_tree.specs.Tree.{Tree, pending}
use Rattle.cut_core.proofs.Fans.{first_count, leaf_count}
use Rattle.cut_core.proofs.tests.waiting.WaitingTileTree.open_children.Goals as goal

abbrev leaf : Key → Tree
leaf k =
    pending []
    (record { volume = None; request = None; error = 9; refine = Replace; external = false }) k

pub returns-then-node-eq0-clause-count : goal.returns-then-node-eq0-clause-count
returns-then-node-eq0-clause-count c =
    let tree = c.args.self.now in
    c.len.ensures ∙ tree.keys.ok.0 ∙ sym (first_count leaf
    (λ x. refl) tree.root.name tree.root.facts
    (tree.root.address ∷ []) tree.keys.items c.args.node.number c.if-node-eq0.true)

pub returns-clause-count : goal.returns-clause-count
returns-clause-count c =
    let tree = c.args.self.now in
    let within : c.args.node.number ≤ length tree.keys.items =
    omega (arith, leb-true _ _ c.requires, tree.keys.ok.0) in
    sym (leaf_count leaf (λ x. refl) tree.root.name tree.root.facts
    (tree.root.address ∷ []) tree.keys.items c.args.node.number c.if-node-eq0.false within)
