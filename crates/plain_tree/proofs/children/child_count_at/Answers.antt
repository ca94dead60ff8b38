use Rattle.std.proofs.Common.{◌+◌, arith}
use Rattle.tree_nodes.specs.Nodes.{node_trees}
use Rattle.plain_tree.proofs.WindowPlaces.{bound_read, child_count}
use Rattle.plain_tree.proofs.children.child_count_at.Goals as goal

pub returns : goal.returns
returns c =
    let bounds = c.args.plain.now.bounds.items in
    let place = c.args.place in
    omega (
      arith,
      child_count (node_trees c.args._store.now c.args.plain.now.list) bounds place c.requires,
      bound_read bounds place c.index-first.result.now (omega (arith, c.requires.there))
          c.index-first.ensures,
      bound_read bounds (place + 1) c.index-end.result.now c.requires.there c.index-end.ensures,
    )
