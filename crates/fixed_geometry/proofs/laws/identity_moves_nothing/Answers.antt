use Rattle.fixed_geometry.proofs.IdentityLaw.{apply-identity, apply_vector-identity}
use Rattle.fixed_geometry.proofs.IdentityLaw.{max_scale-identity}
use Rattle.fixed_geometry.proofs.laws.identity_moves_nothing.Goals as goal

pub returns : goal.returns
returns c = record {
  points = apply-identity;
  vectors = apply_vector-identity;
  scale =
      max_scale-identity;
}
