use Rattle.std.proofs.Common.{◌&&◌, not}
use Rattle.implicit_walk.specs.Places.{begins_subtree}
use Rattle.implicit_walk.specs.Presences.{has_child_bit, own_presence}
use Rattle.implicit_walk.specs.Roots.{subtree_key}
use Rattle.implicit_walk.proofs.Knowing.{tile_in, tile_unless}
use Rattle.implicit_walk.proofs.laws.tiles_have_their_bit.Goals as goal

pub returns : goal.returns
returns c root known at e =
    tile_in root.part known at (subtree_key root at)
    (tile_unless (begins_subtree root.part at && not (has_child_bit root known at))
    (own_presence root known at) e)
