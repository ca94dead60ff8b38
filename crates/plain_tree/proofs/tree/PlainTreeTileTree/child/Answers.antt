use Rattle.std.proofs.Common.{◌<◌, rules, length, arith}
use Rattle.tree_nodes.proofs.Growing.{length-node_trees}
use Rattle.plain_tree.proofs.tree.PlainTreeTileTree.child.Goals as goal

pub returns-clause-valid : goal.returns-clause-valid
returns-clause-valid c =
    let t = c.self.inside in
    let long = length-node_trees t.store.now t.nodes.list in
    let within : c.child_at.result < length t.nodes.list.nodes.items =
    omega (arith, c.child_at.ensures.within, long) in
    rw (← c.self.view_is) (search (rules, within))
