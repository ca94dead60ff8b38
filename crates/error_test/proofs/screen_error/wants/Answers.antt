use Rattle.std.proofs.Common.{arith, ◌≡◌, ◌∙◌, ◌<◌, ◌≤◌, ◌*◌, ap, leb, subst}
use Rattle.fixed_geometry.specs.declared.point.Point.{Point}
use Rattle.volumes.specs.Distances.{distance}
use Rattle.volumes.specs.Limits.{distance_limit}
use Rattle.error_test.proofs.Farthest.{farthest_passes, none_passes}
use Rattle.error_test.proofs.screen_error.wants.Goals as goal

pub returns-then-coarse-gt0 : goal.returns-then-coarse-gt0
returns-then-coarse-gt0 c =
    let view = c.args.view.now in
    let far = distance c.args.volume.now view.eye in
    let coarse = c.from.result * c.from-2.result in
    let coarse_is : coarse ≡ c.args.error * (view.height * view.tan_under * 16) = cc in
    let some : 0 < coarse = omega arith in
    let P : Point → Type 0 = λ p. distance c.args.volume.now p ≤ distance_limit in
    let small : far ≤ distance_limit = subst P c.eye.ensures.value c.is_within.ensures.bound in
    let eye = ap (λ p. leb (distance c.args.volume.now p) c.quotient.result) c.eye.ensures.value in
    let passes = farthest_passes c.distance_factor.result coarse far view.allowed view.tan_over
    c.args.error view.height view.tan_under c.distance_factor.ensures.positive some small
    c.distance_factor.ensures.value coarse_is in
    record {
      value = c.is_within.ensures.value
          ∙ (eye ∙ (ap (λ bound. leb far bound) c.quotient.ensures ∙ passes));
    }

pub returns-else-coarse-gt0 : goal.returns-else-coarse-gt0
returns-else-coarse-gt0 c =
    let view = c.args.view.now in
    let coarse = c.from.result * c.from-2.result in
    let coarse_is : coarse ≡ c.args.error * (view.height * view.tan_under * 16) = cc in
    record {
      value = none_passes coarse c.args.error view.height view.tan_under
          (view.allowed * 2 * view.tan_over * distance c.args.volume.now view.eye * 1000)
          c.if-coarse-gt0.false coarse_is;
    }
