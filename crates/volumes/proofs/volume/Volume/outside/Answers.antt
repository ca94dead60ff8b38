use Rattle.std.proofs.Common.{arith, ◌≡◌, ◌∙◌, ◌≤◌, ◌<◌, ◌*◌, ◌^◌, sym, ap}
use Rattle.std.proofs.lemmas.Nat.{mul-le}
use Rattle.fixed_geometry.proofs.Sizes.{norm_size}
use Rattle.volumes.specs.Limits.{normal_limit}
use Rattle.volumes.specs.Planes.{outside}
use Rattle.volumes.proofs.Corners.{corners_law}
use Rattle.volumes.proofs.volume.Volume.outside.Goals as goal

pub overflow_mul-result : goal.overflow_mul-result
overflow_mul-result c =
    let norm : c.norm.result ≤ 3 * (normal_limit * normal_limit) =
    omega (
      arith,
      c.norm.ensures.value,
      norm_size c.args.plane.now.n normal_limit c.requires.plane.normal,
    ) in
    let all : c.squared_radius.result * c.norm.result
    ≤ 2 ^ 72 * (3 * (normal_limit * normal_limit)) =
    mul-le c.squared_radius.result c.norm.result (2 ^ 72) (3 * (normal_limit * normal_limit))
    c.squared_radius.ensures.bound norm in
    let small : c.squared_radius.result * c.norm.result < 2 ^ 128 = omega arith in
    record { fits = small }

pub returns-in-Oriented-clause-corners : goal.returns-in-Oriented-clause-corners
returns-in-Oriented-clause-corners c =
    let plane = c.args.plane.now in
    let value : c.is_box_outside.result ≡ outside c.args.self.now plane =
    c.is_box_outside.ensures ∙ ap (λ v. outside v plane) (sym c.in-Oriented.is) in
    corners_law c.args.self.now plane c.is_box_outside.result value
