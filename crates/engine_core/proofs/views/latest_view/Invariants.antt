use Rattle.std.proofs.Common.{◌≡◌, drop}
use Rattle.engine_core.specs.Looking.{latest_in}
use Rattle.engine_core.proofs.views.latest_view.Given as goal

-- the viewer's view is among those that are left
abbrev pub invariant-loop-seen : goal.invariant-loop-seen
invariant-loop-seen l = latest_in (drop l.seen-index l.views) l.viewer ≡ latest_in l.views l.viewer
