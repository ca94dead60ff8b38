use Rattle.std.proofs.Common.{arith, ◌≡◌, ◌∙◌, sym, ap, subst, w64}
use Rattle.std.specs.Prelude.{FitsSigned}
use Rattle.std.proofs.lemmas.Int.{ints, fits_signed_from_abs, to_z-of_z}
use Rattle.fixed_geometry.specs.Maps.{apply}
use Rattle.volumes.specs.Limits.{IsInRange}
use Rattle.volumes.proofs.Consequences.{apply-identity}
use Rattle.volumes.proofs.volume.Volume.moved.Goals as goal

pub returns-in-Oriented-clause-same : goal.returns-in-Oriented-clause-same
returns-in-Oriented-clause-same c =
    let v = c.in-Oriented in
    let range = subst IsInRange v.is c.requires in
    λ same.
    let centre : c.apply.result ≡ v.centre =
    c.apply.ensures.value ∙ (ap (λ m. apply m v.centre) same
    ∙ apply-identity v.centre range.centre) in
    rw (centre, c.moved_axes.ensures.same same) (sym v.is)

pub returns-in-Ball-clause-same : goal.returns-in-Ball-clause-same
returns-in-Ball-clause-same c =
    let v = c.in-Ball in
    let range = subst IsInRange v.is c.requires in
    λ same.
    let centre : c.apply-in-Ball.result ≡ v.centre =
    c.apply-in-Ball.ensures.value
    ∙ (ap (λ m. apply m v.centre) same ∙ apply-identity v.centre range.centre) in
    let fits : FitsSigned w64 v.radius =
    fits_signed_from_abs w64 v.radius (omega (arith, ints, range.radius_from, range.radius_to))
    in
    let radius : c.moved_radius.result ≡ v.radius =
    c.moved_radius.ensures.same same ∙ to_z-of_z w64 v.radius fits in
    rw (centre, radius, to_z-of_z w64 v.radius fits) (sym v.is)
