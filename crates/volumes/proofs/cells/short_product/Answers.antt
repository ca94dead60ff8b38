use Rattle.std.proofs.Common.{ℤ, ◌*◌, ◌≤◌, unsigned_abs, subst, sym, lit≤}
use Rattle.fixed_geometry.proofs.Sizes.{abs_product}
use Rattle.fixed_geometry.specs.Points.{coordinate_limit}
use Rattle.volumes.specs.declared.cells.TheConstants.{SHORT_LIMIT}
use Rattle.volumes.proofs.Products.{product_is}
use Rattle.volumes.proofs.cells.short_product.Goals as goal

pub returns-clause-value : goal.returns-clause-value
returns-clause-value c = product_is c.args.component c.args.offset coordinate_limit SHORT_LIMIT
    c.requires.component c.requires.offset (lit≤ tt) (lit≤ tt) (lit≤ tt)

pub returns-clause-bound : goal.returns-clause-bound
returns-clause-bound c =
    let P : ℤ → Type 0 = λ z. unsigned_abs z ≤ coordinate_limit * SHORT_LIMIT in
    subst P (sym (returns-clause-value c))
    (abs_product c.args.component c.args.offset coordinate_limit SHORT_LIMIT c.requires.component
    c.requires.offset)
