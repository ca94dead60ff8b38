use Rattle.std.proofs.Common.{arith, ◌≡◌}
use Rattle.fixed_geometry.specs.Maps.{Map, max_scale}
use Rattle.fixed_geometry.proofs.Sizes.{max_scale-bound}
use Rattle.fixed_geometry.proofs.affine.Affine.of_rows.Goals as goal

pub overflow_cast-result : goal.overflow_cast-result
overflow_cast-result c =
    let map : Map = record { x = c.args.x; y = c.args.y; z = c.args.z; shift = c.args.shift } in
    let scale : c.root_ceil.result ≡ max_scale map = cc in
    omega (arith, scale, max_scale-bound map c.requires)
