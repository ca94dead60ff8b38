use Rattle.std.proofs.Common.{◌≤◌, ◌∙◌, [], length, refl, sym, arith}
use Rattle.std.proofs.lemmas.Bool.{leb-true}
use Rattle.view_notes.specs.declared.tests.fan.FanTile.{FanTile}
use Rattle.expanded_tree.specs.Tree.{Tree, explicit_tile, no_trees}
use Rattle.cut_core.proofs.Fans.{first_count, leaf_count}
use Rattle.view_notes.proofs.tests.fan.FanTileTree.open_children.Goals as goal

abbrev leaf : FanTile → Tree
leaf c = explicit_tile [] c.facts c.contents no_trees

pub returns-then-node-eq0-clause-count : goal.returns-then-node-eq0-clause-count
returns-then-node-eq0-clause-count c =
    let fan = c.args.self.now in
    c.len.ensures ∙ fan.children.ok.0 ∙ sym (first_count leaf
    (λ x. refl) [] fan.root.facts
    fan.root.contents fan.children.items c.args.node.number c.if-node-eq0.true)

pub returns-clause-count : goal.returns-clause-count
returns-clause-count c =
    let fan = c.args.self.now in
    let within : c.args.node.number ≤ length fan.children.items =
    omega (arith, leb-true _ _ c.requires, fan.children.ok.0) in
    sym (leaf_count leaf (λ x. refl) [] fan.root.facts
    fan.root.contents fan.children.items c.args.node.number c.if-node-eq0.false within)
