use Rattle.std.proofs.Common.{arith, ◌≡◌, ◌∙◌, sym}
use Rattle.std.proofs.lemmas.Grind.{common_steps}
use Rattle.volumes.specs.Distances.{contains}
use Rattle.volumes.proofs.Consequences.{contained_at_no_distance}
use Rattle.volumes.proofs.volume.Volume.contains.Goals as goal

pub returns-in-Oriented-clause-at_no_distance : goal.returns-in-Oriented-clause-at_no_distance
returns-in-Oriented-clause-at_no_distance c =
    let value : c.is_inside_box.result ≡ contains c.args.self.now c.args.p =
    grind (arith, common_steps) in
    λ h. contained_at_no_distance c.args.self.now c.args.p (sym value ∙ h)

pub returns-in-Ball-clause-at_no_distance : goal.returns-in-Ball-clause-at_no_distance
returns-in-Ball-clause-at_no_distance c =
    λ h. contained_at_no_distance c.args.self.now c.args.p (grind (arith, common_steps))
