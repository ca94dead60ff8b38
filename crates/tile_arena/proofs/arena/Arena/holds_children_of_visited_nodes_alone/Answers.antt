use Rattle.std.proofs.Common.{arith}
use Rattle.cut_core.specs.Visits.{may_want_children, to_open, visits}
use Rattle.tree_nodes.specs.Trees.{stored_tree}
use Rattle.tile_arena.specs.Standing.{standing_in}
use Rattle.tile_arena.proofs.Walks.{fewer_children, some_children}
use Rattle.tile_arena.proofs.arena.Arena.holds_children_of_visited_nodes_alone.Goals as goal

pub returns : goal.returns
returns c =
    let a = c.self.inside in
    rw (← c.self.view_is) (λ view opens.
    let all = visits view (stored_tree a.store) in
    omega (
      arith,
      c.self.invariant.few,
      some_children (standing_in a.store a.held) a.held.opened.items (to_open view all) opens,
      fewer_children (may_want_children view) all,
    ))
