use Rattle.std.proofs.Common.{◌≤◌, [], length, refl, arith}
use Rattle.std.proofs.lemmas.Bool.{leb-true, le-leb}
use Rattle.view_notes.specs.declared.tests.fan.FanTile.{FanTile}
use Rattle.expanded_tree.specs.Tree.{Tree, explicit_tile, no_trees}
use Rattle.cut_core.proofs.Fans.{has_child, child_at}
use Rattle.view_notes.proofs.tests.fan.FanTileTree.child.Goals as goal

abbrev leaf : FanTile → Tree
leaf c = explicit_tile [] c.facts c.contents no_trees

pub returns-clause-valid : goal.returns-clause-valid
returns-clause-valid c =
    let fan = c.args.self.now in
    let within : c.args._node.number ≤ length fan.children.items =
    omega (arith, leb-true _ _ c.requires.valid, fan.children.ok.0) in
    let here = has_child leaf (λ x. refl) [] fan.root.facts
    fan.root.contents fan.children.items c.args._node.number c.args.i within
    c.requires.within in
    le-leb _ _ (omega (arith, here.1, c.from.ensures, fan.children.ok.0))

pub returns-clause-tree : goal.returns-clause-tree
returns-clause-tree c =
    let fan = c.args.self.now in
    let within : c.args._node.number ≤ length fan.children.items =
    omega (arith, leb-true _ _ c.requires.valid, fan.children.ok.0) in
    child_at leaf (λ x. refl) [] fan.root.facts
    fan.root.contents fan.children.items c.args._node.number c.args.i _ within
    c.requires.within (omega (arith, c.from.ensures))
