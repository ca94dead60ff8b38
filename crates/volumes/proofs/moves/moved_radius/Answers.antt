use Rattle.std.proofs.Common.{arith, ◌≡◌, ◌∙◌, ap, pos, unsigned_abs, w64}
use Rattle.std.proofs.lemmas.Int.{to_z-of_z}
use mir.Val.{to_z}
use Rattle.volumes.specs.Moves.{moved_radius}
use Rattle.volumes.proofs.Consequences.{moved_radius-identity}
use Rattle.volumes.proofs.moves.moved_radius.Goals as goal

pub returns-clause-same : goal.returns-clause-same
returns-clause-same c =
    let value : to_z w64 c.min.result
    ≡ pos (moved_radius (unsigned_abs c.args.radius) c.args.by.now) =
    grind (arith, to_z-of_z) in
    λ same. value ∙ (ap (λ m. pos (moved_radius (unsigned_abs c.args.radius) m)) same
    ∙ moved_radius-identity c.args.radius c.requires.from c.requires.to)
