use Rattle.std.proofs.Common.{arith, ◌∙◌}
use Rattle.std.proofs.lemmas.Int.{ints, to_z-of_z}
use Rattle.volumes.proofs.Products.{fits_sum, fits_sum_3, sum_3_is}
use Rattle.volumes.proofs.cells.short_dot.Goals as goal

pub overflow_add-result : goal.overflow_add-result
overflow_add-result c = fits_sum c.short_product.result c.short_product-2.result (omega arith)
    (omega arith)

pub overflow_add-result-2 : goal.overflow_add-result-2
overflow_add-result-2 c = fits_sum_3 c.short_product.result c.short_product-2.result
    c.short_product-3.result (omega arith) (omega arith) (omega arith)

pub returns-clause-value : goal.returns-clause-value
returns-clause-value c =
    sum_3_is c.short_product.result c.short_product-2.result c.short_product-3.result (omega arith)
    (omega arith) (omega arith) ∙ grind (arith, to_z-of_z)

pub returns-clause-bound : goal.returns-clause-bound
returns-clause-bound c = omega (arith, ints)
