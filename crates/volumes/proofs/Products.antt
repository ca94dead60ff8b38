-- Products and sums that fit 64 bits.
use Rattle.std.proofs.Common.{arith, ◌≡◌, ◌∙◌, ℕ, ◌*◌, ◌^◌, ◌≤◌, ℤ, ◌+ℤ◌, ◌*ℤ◌, unsigned_abs, w64}
use Rattle.std.proofs.Common.{ap}
use Rattle.std.specs.Prelude.{FitsSigned}
use Rattle.std.proofs.lemmas.Int.{ints, fits_signed_from_abs, to_z-of_z}
use mir.Val.{to_z, of_z}
use Rattle.fixed_geometry.proofs.Sizes.{abs_product}

-- the code's a * b
pub product_is : (a b : ℤ) (m n : ℕ) → unsigned_abs a ≤ m → unsigned_abs b ≤ n → m ≤ 2 ^ 62
    → n ≤ 2 ^ 62 → m * n ≤ 2 ^ 62
    → to_z w64 (of_z w64 (to_z w64 (of_z w64 a) *ℤ to_z w64 (of_z w64 b))) ≡ a *ℤ b
product_is a b m n h g hm gn all =
    let fa : FitsSigned w64 a = fits_signed_from_abs w64 a (omega arith) in
    let fb : FitsSigned w64 b = fits_signed_from_abs w64 b (omega arith) in
    let small = abs_product a b m n h g in
    let fits : FitsSigned w64 (a *ℤ b) = fits_signed_from_abs w64 (a *ℤ b) (omega arith) in
    let same : to_z w64 (of_z w64 a) *ℤ to_z w64 (of_z w64 b) ≡ a *ℤ b =
    ap (λ z. z *ℤ to_z w64 (of_z w64 b)) (to_z-of_z w64 a fa)
    ∙ ap (λ z. a *ℤ z) (to_z-of_z w64 b fb) in
    ap (λ z. to_z w64 (of_z w64 z)) same ∙ to_z-of_z w64 (a *ℤ b) fits

-- the code's a + b, and a + b + c
pub sum_is : (a b : ℤ) → unsigned_abs a ≤ 2 ^ 60 → unsigned_abs b ≤ 2 ^ 60
    → to_z w64 (of_z w64 (to_z w64 (of_z w64 a) +ℤ to_z w64 (of_z w64 b))) ≡ a +ℤ b
sum_is a b h g = omega (arith, ints)

pub sum_3_is : (a b c : ℤ) → unsigned_abs a ≤ 2 ^ 60 → unsigned_abs b ≤ 2 ^ 60
    → unsigned_abs c ≤ 2 ^ 60
    → to_z w64 (of_z w64 (to_z w64 (of_z w64 (to_z w64 (of_z w64 a) +ℤ to_z w64 (of_z w64 b)))
    +ℤ to_z w64 (of_z w64 c))) ≡ a +ℤ b +ℤ c
sum_3_is a b c h g k = omega (arith, ints)

pub fits_sum : (a b : ℤ) → unsigned_abs a ≤ 2 ^ 60 → unsigned_abs b ≤ 2 ^ 60
    → FitsSigned w64 (to_z w64 (of_z w64 a) +ℤ to_z w64 (of_z w64 b))
fits_sum a b h g = fits_signed_from_abs w64 _ (omega (arith, ints))

pub fits_sum_3 : (a b c : ℤ) → unsigned_abs a ≤ 2 ^ 60 → unsigned_abs b ≤ 2 ^ 60
    → unsigned_abs c ≤ 2 ^ 60
    → FitsSigned w64 (to_z w64 (of_z w64 (to_z w64 (of_z w64 a) +ℤ to_z w64 (of_z w64 b)))
    +ℤ to_z w64 (of_z w64 c))
fits_sum_3 a b c h g k = fits_signed_from_abs w64 _ (omega (arith, ints))
