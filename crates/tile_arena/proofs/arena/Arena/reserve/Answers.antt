use Rattle.tile_arena.proofs.Spares.{still_held}
use Rattle.tile_arena.proofs.arena.Arena.reserve.Goals as goal

pub invariant_of-self : goal.invariant_of-self
invariant_of-self c =
    still_held c.self.inside.store c.reserve.new.self c.self.inside.held c.reserve.ensures.loaded
    c.reserve.ensures.gone c.self.invariant
