use Rattle.tree_nodes.proofs.ExternalChildren.{Outside}
use Rattle.tree_nodes.proofs.node_list.NodeList.push_external.Given as goal

abbrev pub invariant-loop-i : goal.invariant-loop-i
invariant-loop-i l =
    Outside l.store l.limit l.fn.self l.self l.handed l.own.parts l.i l.number
