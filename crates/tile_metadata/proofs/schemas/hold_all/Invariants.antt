use Rattle.std.proofs.Common.{◌≡◌, ◌-◌, length}
use Rattle.tile_metadata.specs.Kept.{AreHeld}
use Rattle.tile_metadata.proofs.schemas.hold_all.Given as goal

abbrev pub invariant-loop-number : goal.invariant-loop-number
invariant-loop-number l = AreHeld l.store l.held.items × (length l.held.items ≡ l.number)

abbrev pub decreases-loop-number : goal.decreases-loop-number
decreases-loop-number l = 65535 - l.number
