use Rattle.tree_nodes.proofs.PlaceExternals.{Followed}
use Rattle.tree_nodes.proofs.node_list.NodeList.push_place_external.Given as goal

abbrev pub invariant-loop-number : goal.invariant-loop-number
invariant-loop-number l =
    Followed l.store l.limit l.fn.self l.self l.handed l.entry l.number
