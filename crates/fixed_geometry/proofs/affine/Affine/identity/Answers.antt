use Rattle.std.proofs.Common.{rules, sym}
use Rattle.fixed_geometry.proofs.IdentityLaw.{max_scale-identity}
use Rattle.fixed_geometry.proofs.Shifts.{identity-only_shift}
use Rattle.fixed_geometry.proofs.affine.Affine.identity.Goals as goal

pub invariant_of-result : goal.invariant_of-result
invariant_of-result c = record {
  bounded = search rules;
  scale_is = sym max_scale-identity;
  shifts_is = sym identity-only_shift;
}
