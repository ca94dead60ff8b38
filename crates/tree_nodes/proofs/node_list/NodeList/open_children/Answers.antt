use Rattle.std.proofs.Common.{refl, arith}
use Rattle.tree_nodes.proofs.Staying.{stays}
use Rattle.tree_nodes.proofs.node_list.NodeList.open_children.Goals as goal

pub returns-in-Err-clause-err : goal.returns-in-Err-clause-err
returns-in-Err-clause-err c =
    stays c.args.store.now c.args.self.now c.push_children.new.self _ c.len-count.result
    c.requires.sound c.in-Err.ensures.1
    (omega (arith, c.len-count.ensures, c.args.self.now.nodes.ok.0)) c.truncate.ensures.items refl
