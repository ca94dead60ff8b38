use Rattle.volumes.proofs.Consequences.{outside_farther}
use Rattle.volumes.proofs.laws.outside_farther_in.Goals as goal

pub returns : goal.returns
returns c = outside_farther c.args.volume.now c.args.plane.now c.args.d c.requires.farther_in
    c.requires.outside
