use Rattle.fixed_geometry.proofs.Sizes.{max_scale-bound}
use Rattle.fixed_geometry.proofs.affine.Affine.max_scale.Goals as goal

pub returns-clause-bound : goal.returns-clause-bound
returns-clause-bound c = rw (← c.self.view_is) (max_scale-bound _ c.self.invariant.bounded)

pub returns-clause-within : goal.returns-clause-within
returns-clause-within c = rw (← c.self.view_is) c.self.invariant.bounded
