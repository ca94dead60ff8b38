use Rattle.std.proofs.Common.{◌-◌}
use Rattle.tree_nodes.specs.Tiles.{tile_at}
use Rattle.tree_nodes.proofs.WrittenChildren.{Written}
use Rattle.tree_nodes.proofs.node_list.NodeList.push_written.Given as goal

abbrev pub invariant-loop-next : goal.invariant-loop-next
invariant-loop-next l =
    Written l.store l.limit l.fn.self l.self l.handed l.tiles l.document
    (tile_at l.store l.document l.tile) l.next l.end l.number

abbrev pub decreases-loop-next : goal.decreases-loop-next
decreases-loop-next l = l.end - l.next
