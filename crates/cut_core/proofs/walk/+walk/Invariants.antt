use Rattle.std.proofs.Common.{◌≡◌, ◌+◌, ◌*◌, IsTrue, Some, length, take}
use Rattle.std.specs.List.{list_all, flat_map}
use Rattle.expanded_tree.specs.Tree.{tree_size, children_of, from_list}
use Rattle.cut_core.specs.Cut.{is_ready, shown_tiles}
use Rattle.cut_core.specs.Distances.{measured_nodes}
use Rattle.cut_core.specs.Linked.{all_linked_nodes}
use Rattle.cut_core.specs.Links.{LinksMore}
use Rattle.cut_core.specs.Walk.{Walked, distance_by, found_in}
use Rattle.cut_core.proofs.walk.+walk.Given as goal

abbrev pub decreases-walk_node : goal.decreases-walk_node
decreases-walk_node g l = 3 * tree_size ((g.T.TileTree.standing l.tree.now).node_tree l.node) + 2

abbrev pub decreases-walk_tile : goal.decreases-walk_tile
decreases-walk_tile g l = 3 * tree_size ((g.T.TileTree.standing l.tree.now).node_tree l.tile.node) +
    1

abbrev pub decreases-walk_children : goal.decreases-walk_children
decreases-walk_children g l = 3 * tree_size
    ((g.T.TileTree.standing l.tree.now).node_tree l.tile.node)

-- the children before the i-th were walked
abbrev pub invariant-walk_children-loop-i : goal.invariant-walk_children-loop-i
invariant-walk_children-loop-i g l =
    let holdings = g.H.Holdings.holdings l.context.holdings.now in
    let view = l.context.view.now in
    let before = g.T.TileTree.standing l.fn.tree in
    let now = g.T.TileTree.standing l.tree in
    let d = distance_by before view l.tile.measured_by in
    let done = take l.i (children_of (before.node_tree l.tile.node)) in
    record {
      basis : g.T.TileTree.basis l.tree ≡ g.T.TileTree.basis l.fn.tree;
      walked : Walked before now view holdings (found_in l.fn.found) (found_in l.found)
          (flat_map (measured_nodes view d) done) (flat_map (shown_tiles view holdings) done);
      all : l.all ≡ list_all (is_ready view holdings) done;
      at_hand : IsTrue (now.at_hand l.tile.node);
      links : LinksMore view l.fn.found.visits.items l.found.visits.items
          (all_linked_nodes view (Some l.tile.number) (length l.fn.found.visits.items)
          (from_list done));
    }
