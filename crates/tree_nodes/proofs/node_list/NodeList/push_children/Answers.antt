use Rattle.tree_nodes.proofs.TileChildren.{no_children}
use Rattle.tree_nodes.proofs.node_list.NodeList.push_children.Goals as goal

pub returns-in-Pending : goal.returns-in-Pending
returns-in-Pending c =
    no_children c.args.store.now c.args.limit c.args.self.now c.args.place c.index-node.result.now
    c.in-Pending.waiting c.requires.sound c.requires.within c.index-node.ensures c.in-Pending.is
