use Rattle.std.proofs.Common.{ap, ◌∙◌, Some, arith}
use Rattle.tree_nodes.specs.TreeIn.{tree_in}
use Rattle.tree_nodes.specs.Nodes.{node_trees}
use Rattle.tree_nodes.proofs.Growing.{length-node_trees}
use Rattle.plain_tree.proofs.WindowPlaces.{bound_read, child_tree, child_within}
use Rattle.plain_tree.proofs.children.child_at.Goals as goal

pub overflow_add-result : goal.overflow_add-result
overflow_add-result c =
    let trees = node_trees c.args._store.now c.args.plain.now.list in
    let bounds = c.args.plain.now.bounds.items in
    omega (
      arith,
      c.from.ensures,
      child_within trees bounds c.args.place c.requires.parent c.args.i c.requires.within,
      bound_read bounds c.args.place c.index.result.now (omega (arith, c.requires.parent.there))
          c.index.ensures,
      length-node_trees c.args._store.now c.args.plain.now.list,
      c.args.plain.now.list.nodes.ok.0,
      c.args.plain.now.list.nodes.small,
    )

pub returns-clause-within : goal.returns-clause-within
returns-clause-within c =
    let trees = node_trees c.args._store.now c.args.plain.now.list in
    let bounds = c.args.plain.now.bounds.items in
    omega (
      arith,
      c.from.ensures,
      child_within trees bounds c.args.place c.requires.parent c.args.i c.requires.within,
      bound_read bounds c.args.place c.index.result.now (omega (arith, c.requires.parent.there))
          c.index.ensures,
    )

pub returns-clause-tree : goal.returns-clause-tree
returns-clause-tree c =
    let trees = node_trees c.args._store.now c.args.plain.now.list in
    let bounds = c.args.plain.now.bounds.items in
    child_tree trees bounds c.args.place c.requires.parent c.args.i c.requires.within
    ∙ ap (λ k. Some (tree_in trees k)) (omega (
      arith,
      c.from.ensures,
      bound_read bounds c.args.place c.index.result.now (omega (arith, c.requires.parent.there))
          c.index.ensures,
    ))
