use Rattle.std.proofs.Common.{◌≡◌, ℕ, ◌<◌, get_or, false}
use Rattle.volumes.specs.Planes.{outside}
use Rattle.volumes.specs.declared.plane.Plane.{Plane}
use Rattle.error_test.proofs.culling.culled.Given as goal

abbrev pub invariant-loop-plane : goal.invariant-loop-plane
invariant-loop-plane l = (k : ℕ) (d : Plane) → k < l.plane-index
    → outside l.volume (get_or l.plane-items k d) ≡ false
