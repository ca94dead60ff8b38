-- Rounded quotients: their sizes, and those of powers of ten.
use Rattle.std.proofs.Common.{◌≡◌, ℕ, ◌+◌, ◌-◌, ◌*◌, ◌/◌, ◌^◌, ◌<◌, ◌≤◌, arith, sym, ap, ◌∙◌, lit<}
use Rattle.std.proofs.Math.Nat.{div-mul-le_self, mul-le-mul_left, mul_comm, mul_assoc}
use Rattle.std.proofs.Math.Nat.{mul-div-mul_right, one-le-pow, div-le_self}
use Rattle.std.proofs.lemmas.Nat.{div_below, pow-add}
use Rattle.fixed_geometry.specs.Quotient.{half_size}

pub half_size_le : (n d : ℕ) → 0 < d → half_size n d ≤ n
half_size_le n d h =
    let m : n * 1 ≤ n * d = mul-le-mul_left n h in
    let e : (n + 1) * (2 * d) ≡ (n + 1) * d * 2 =
    ap (λ x. (n + 1) * x) (mul_comm 2 d) ∙ sym (mul_assoc (n + 1) d 2) in
    let small : 2 * n + d < (n + 1) * (2 * d) = omega arith in
    let q : (2 * n + d) / (2 * d) < n + 1 =
    div_below (2 * n + d) (2 * d) (n + 1) (omega arith) small in
    omega arith

pub half_size-at_most : (size n d : ℕ) → size ≡ half_size n d → 2 * (size * d) ≤ 2 * n + d
half_size-at_most size n d e =
    let whole = div-mul-le_self (2 * n + d) (2 * d) in
    let same : 2 * (size * d) ≡ half_size n d * (2 * d) = ap (λ q. 2 * (q * d)) e ∙ omega arith in
    omega (arith, whole, same)

-- ---- quotients of powers of ten

half_size_scaled : (n d m : ℕ) → 0 < m → half_size (n * m) (d * m) ≡ half_size n d
half_size_scaled n d m h =
    let top : 2 * (n * m) + d * m ≡ (2 * n + d) * m = omega arith in
    let under : 2 * (d * m) ≡ 2 * d * m = omega arith in
    rw (top, under) (mul-div-mul_right (2 * n + d) (2 * d) h)

half_size_by_one : (n : ℕ) → half_size n 1 ≡ n
half_size_by_one n = omega arith

half_size_by_even : (n h : ℕ) → half_size n (2 * h) ≡ (n + h) / (2 * h)
half_size_by_even n h =
    let top : 2 * n + 2 * h ≡ (n + h) * 2 = omega arith in
    let under : 2 * (2 * h) ≡ 2 * h * 2 = omega arith in
    rw (top, under) (mul-div-mul_right (n + h) (2 * h) (lit< tt))

-- no more places behind the point than are kept
pub half_size_of_fewer : (v p f : ℕ) → f ≤ p → half_size (v * 10 ^ p) (10 ^ f) ≡ v * 10 ^ (p - f)
half_size_of_fewer v p f h =
    let e : p ≡ (p - f) + f = omega arith in
    let power : 10 ^ p ≡ 10 ^ (p - f) * 10 ^ f = ap (λ x. 10 ^ x) e ∙ pow-add 10 (p - f) f in
    let top : v * 10 ^ p ≡ v * 10 ^ (p - f) * 10 ^ f =
    ap (λ x. v * x) power ∙ sym (mul_assoc v (10 ^ (p - f)) (10 ^ f)) in
    let under : 10 ^ f ≡ 1 * 10 ^ f = omega arith in
    ap (λ x. half_size x (10 ^ f)) top
    ∙ (ap (λ x. half_size (v * 10 ^ (p - f) * 10 ^ f) x) under
    ∙ (half_size_scaled (v * 10 ^ (p - f)) 1 (10 ^ f) (one-le-pow f 10 (lit< tt))
    ∙ half_size_by_one (v * 10 ^ (p - f))))

-- more places behind the point than are kept
pub half_size_of_more : (v p f : ℕ) → p < f
    → half_size (v * 10 ^ p) (10 ^ f) ≡ (v + 10 ^ (f - p) / 2) / 10 ^ (f - p)
half_size_of_more v p f h =
    let e : f ≡ (f - p) + p = omega arith in
    let power : 10 ^ f ≡ 10 ^ (f - p) * 10 ^ p = ap (λ x. 10 ^ x) e ∙ pow-add 10 (f - p) p in
    let j : f - p ≡ 1 + (f - p - 1) = omega arith in
    let tenfold : 10 ^ (f - p) ≡ 10 * 10 ^ (f - p - 1) =
    ap (λ x. 10 ^ x) j ∙ pow-add 10 1 (f - p - 1) in
    let even : 10 ^ (f - p) ≡ 2 * (10 ^ (f - p) / 2) = omega (arith, tenfold) in
    ap (λ x. half_size (v * 10 ^ p) x) power
    ∙ (half_size_scaled v (10 ^ (f - p)) (10 ^ p) (one-le-pow p 10 (lit< tt))
    ∙ (ap (λ x. half_size v x) even
    ∙ (half_size_by_even v (10 ^ (f - p) / 2) ∙ ap (λ x. (v + 10 ^ (f - p) / 2) / x) (sym even))))

-- a rounded quotient fits 64 bits
pub rounded_below : (v u : ℕ) → v < 10 ^ 19 → u ≤ 10 ^ 19 → (v + u / 2) / u < 2 ^ 64
rounded_below v u h g =
    let q : (v + u / 2) / u ≤ v + u / 2 = div-le_self (v + u / 2) u in
    omega arith
