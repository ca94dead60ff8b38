use Rattle.std.proofs.Common.{ℤ, ◌*◌, ◌≤◌, unsigned_abs, subst, sym, lit≤}
use Rattle.fixed_geometry.proofs.Sizes.{abs_product}
use Rattle.fixed_geometry.specs.Points.{coordinate_limit}
use Rattle.volumes.specs.Limits.{normal_limit}
use Rattle.volumes.proofs.Products.{product_is}
use Rattle.volumes.proofs.planes.product.Goals as goal

pub returns-clause-value : goal.returns-clause-value
returns-clause-value c = product_is c.args.a c.args.b normal_limit coordinate_limit c.requires.a
    c.requires.b (lit≤ tt) (lit≤ tt) (lit≤ tt)

pub returns-clause-bound : goal.returns-clause-bound
returns-clause-bound c =
    let P : ℤ → Type 0 = λ z. unsigned_abs z ≤ normal_limit * coordinate_limit in
    subst P (sym (returns-clause-value c))
    (abs_product c.args.a c.args.b normal_limit coordinate_limit c.requires.a c.requires.b)
