use Rattle.std.proofs.Common.{arith, ◌≡◌, ◌*◌, ◌*ℤ◌, ◌+ℤ◌, ◌≤◌, ◌^◌, ◌∙◌, ap, unsigned_abs, rules}
use Rattle.std.proofs.Common.{w64}
use Rattle.std.specs.Prelude.{FitsSigned}
use Rattle.std.proofs.lemmas.Int.{ints, to_z-of_z}
use Rattle.std.proofs.lemmas.Nat.{mul-le}
use Rattle.fixed_geometry.proofs.Sizes.{fits_sum, fits_sum_3, sum_3_is, sum_3_size}
use Rattle.fixed_geometry.proofs.point.Point.dot.Goals as goal

pub overflow_add-result : goal.overflow_add-result
overflow_add-result c =
    let a : unsigned_abs c.product.result ≤ 2 ^ 61 * 2 ^ 61 =
    rw c.product.ensures.size
    (mul-le _ _ (2 ^ 61) (2 ^ 61) (omega (arith, ints)) (omega (arith, ints))) in
    let b : unsigned_abs c.product-2.result ≤ 2 ^ 61 * 2 ^ 61 =
    rw c.product-2.ensures.size
    (mul-le _ _ (2 ^ 61) (2 ^ 61) (omega (arith, ints)) (omega (arith, ints))) in
    fits_sum c.product.result c.product-2.result (omega arith) (omega arith)

pub overflow_add-result-2 : goal.overflow_add-result-2
overflow_add-result-2 c =
    let a : unsigned_abs c.product.result ≤ 2 ^ 61 * 2 ^ 61 =
    rw c.product.ensures.size
    (mul-le _ _ (2 ^ 61) (2 ^ 61) (omega (arith, ints)) (omega (arith, ints))) in
    let b : unsigned_abs c.product-2.result ≤ 2 ^ 61 * 2 ^ 61 =
    rw c.product-2.ensures.size
    (mul-le _ _ (2 ^ 61) (2 ^ 61) (omega (arith, ints)) (omega (arith, ints))) in
    let d : unsigned_abs c.product-3.result ≤ 2 ^ 61 * 2 ^ 61 =
    rw c.product-3.ensures.size
    (mul-le _ _ (2 ^ 61) (2 ^ 61) (omega (arith, ints)) (omega (arith, ints))) in
    fits_sum_3 c.product.result c.product-2.result c.product-3.result (omega arith) (omega arith)
    (omega arith)

pub returns-clause-value : goal.returns-clause-value
returns-clause-value c =
    let a : unsigned_abs c.product.result ≤ 2 ^ 61 * 2 ^ 61 =
    rw c.product.ensures.size
    (mul-le _ _ (2 ^ 61) (2 ^ 61) (omega (arith, ints)) (omega (arith, ints))) in
    let b : unsigned_abs c.product-2.result ≤ 2 ^ 61 * 2 ^ 61 =
    rw c.product-2.ensures.size
    (mul-le _ _ (2 ^ 61) (2 ^ 61) (omega (arith, ints)) (omega (arith, ints))) in
    let d : unsigned_abs c.product-3.result ≤ 2 ^ 61 * 2 ^ 61 =
    rw c.product-3.ensures.size
    (mul-le _ _ (2 ^ 61) (2 ^ 61) (omega (arith, ints)) (omega (arith, ints))) in
    let fx : FitsSigned w64 c.args.self.x = search rules in
    let fy : FitsSigned w64 c.args.self.y = search rules in
    let fz : FitsSigned w64 c.args.self.z = search rules in
    let gx : FitsSigned w64 c.args.other.x = search rules in
    let gy : FitsSigned w64 c.args.other.y = search rules in
    let gz : FitsSigned w64 c.args.other.z = search rules in
    let px : c.product.result ≡ c.args.self.x *ℤ c.args.other.x =
    simp to_z-of_z at c.product.ensures.value in
    let py : c.product-2.result ≡ c.args.self.y *ℤ c.args.other.y =
    simp to_z-of_z at c.product-2.ensures.value in
    let pz : c.product-3.result ≡ c.args.self.z *ℤ c.args.other.z =
    simp to_z-of_z at c.product-3.ensures.value in
    sum_3_is c.product.result c.product-2.result c.product-3.result (omega arith) (omega arith)
    (omega arith)
    ∙ (ap (λ s. s +ℤ c.product-2.result +ℤ c.product-3.result) px
    ∙ (ap (λ s. c.args.self.x *ℤ c.args.other.x +ℤ s +ℤ c.product-3.result) py
    ∙ ap (λ s. c.args.self.x *ℤ c.args.other.x +ℤ c.args.self.y *ℤ c.args.other.y +ℤ s) pz))

pub returns-clause-bound : goal.returns-clause-bound
returns-clause-bound c =
    let a : unsigned_abs c.product.result ≤ 2 ^ 61 * 2 ^ 61 =
    rw c.product.ensures.size
    (mul-le _ _ (2 ^ 61) (2 ^ 61) (omega (arith, ints)) (omega (arith, ints))) in
    let b : unsigned_abs c.product-2.result ≤ 2 ^ 61 * 2 ^ 61 =
    rw c.product-2.ensures.size
    (mul-le _ _ (2 ^ 61) (2 ^ 61) (omega (arith, ints)) (omega (arith, ints))) in
    let d : unsigned_abs c.product-3.result ≤ 2 ^ 61 * 2 ^ 61 =
    rw c.product-3.ensures.size
    (mul-le _ _ (2 ^ 61) (2 ^ 61) (omega (arith, ints)) (omega (arith, ints))) in
    sum_3_size c.product.result c.product-2.result c.product-3.result (omega arith) (omega arith)
    (omega arith)
