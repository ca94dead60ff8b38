use Rattle.std.proofs.Common.{ap, ◌∙◌}
use Rattle.tile_arena.specs.Children.{children_at, closed}
use Rattle.tile_arena.proofs.Rooms.{get_or-more}
use Rattle.tile_arena.proofs.children.make_room.Goals as goal

pub loop-children-preserved : goal.loop-children-preserved
loop-children-preserved c = λ at.
    ap (λ cs. children_at cs at) c.in_ok-push.ensures.items
    ∙ get_or-more c.loop-children.children.items closed at ∙ c.loop-children.invariant at
