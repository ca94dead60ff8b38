use Rattle.std.proofs.Common.{◌<◌, rules, length, arith}
use Rattle.tree_nodes.proofs.Growing.{length-node_trees}
use Rattle.plain_tree.proofs.tree.PlainTreeTileTree.open_children.Goals as goal

pub child_count_at-requires : goal.child_count_at-requires
child_count_at-requires c =
    let t = c.self.inside in
    let long = length-node_trees t.store.now t.nodes.list in
    let valid = rw (← c.self.view_is) at c.requires in
    let within : c.args.node.number < length t.nodes.list.nodes.items = search (rules, valid) in
    c.self.invariant.children c.args.node.number (omega (arith, within, long))
