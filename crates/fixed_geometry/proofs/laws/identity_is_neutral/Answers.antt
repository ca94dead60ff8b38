use Rattle.fixed_geometry.proofs.IdentityLaw.{after-identity_left, after-identity_right}
use Rattle.fixed_geometry.proofs.laws.identity_is_neutral.Goals as goal

pub returns : goal.returns
returns c = record { own = after-identity_right; parent = after-identity_left }
