use Rattle.std.proofs.Common.{refl}
use Rattle.fixed_geometry.proofs.Sizes.{difference_is}
use Rattle.fixed_geometry.proofs.point.Point.minus.Goals as goal

pub returns : goal.returns
returns c =
    let x = difference_is c.args.self.x c.args.other.x c.requires.left.x c.requires.right.x in
    let y = difference_is c.args.self.y c.args.other.y c.requires.left.y c.requires.right.y in
    let z = difference_is c.args.self.z c.args.other.z c.requires.left.z c.requires.right.z in
    rw (x, y, z) refl
