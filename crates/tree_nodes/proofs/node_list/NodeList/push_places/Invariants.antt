use Rattle.tree_nodes.proofs.PlaceChildren.{First}
use Rattle.tree_nodes.proofs.node_list.NodeList.push_places.Given as goal

abbrev pub invariant-loop-child : goal.invariant-loop-child
invariant-loop-child l =
    First l.store l.limit l.fn.self l.self l.handed l.top l.child-items l.child-index
