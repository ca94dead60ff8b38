use Rattle.std.proofs.Common.{◌≡◌, ◌≤◌, length}
use Rattle.tile_uri.proofs.States.{accepted}
use Rattle.tile_uri.proofs.plain_path.is_plain_behind_slash.Given as goal

abbrev pub invariant-loop-rest : goal.invariant-loop-rest
invariant-loop-rest l = record
    { within : l.state ≤ 2; same : accepted l.state l.rest ≡ accepted 1 l.text }

abbrev pub decreases-loop-rest : goal.decreases-loop-rest
decreases-loop-rest l = length l.rest
