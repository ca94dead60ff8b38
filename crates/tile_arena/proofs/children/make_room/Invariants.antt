use Rattle.std.proofs.Common.{◌≡◌, ℕ, length, ◌+◌, ◌-◌}
use Rattle.tile_arena.specs.Children.{children_at}
use Rattle.tile_arena.proofs.children.make_room.Given as goal

abbrev pub invariant-loop-children : goal.invariant-loop-children
invariant-loop-children l =
    (at : ℕ) → children_at l.children.items at ≡ children_at l.fn.children.items at

abbrev pub decreases-loop-children : goal.decreases-loop-children
decreases-loop-children l = l.place + 1 - length l.children.items
