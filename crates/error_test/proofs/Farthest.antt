-- How far a volume may be for its error to be too great.
use Rattle.std.proofs.Common.{arith, ◌≡◌, ℕ, ◌+◌, ◌-◌, ◌*◌, ◌/◌, ◌^◌, ◌<◌, ◌≤◌, ltb, leb, min}
use Rattle.std.proofs.Common.{⊎_elim, sym, ap, ◌∙◌}
use Rattle.std.proofs.lemmas.Bool.{cases_lt}
use Rattle.std.proofs.lemmas.Bool.Decides.{nat_tests}
use Rattle.std.proofs.Math.Nat.{mul-le-mul_left}
use Rattle.volumes.specs.Limits.{distance_limit}

-- far * a is below c exactly where far is at most (c - 1) / a
pub farthest : (a c far : ℕ) → 0 < a → 0 < c → far ≤ distance_limit
    → ltb (far * a) c ≡ leb far (min ((c - 1) / a) (2 ^ 64 - 1))
farthest a c far ha hc small = ⊎_elim
    (λ (h : (c - 1) / a < far).
    let most : a * ((c - 1) / a + 1) ≤ a * far = mul-le-mul_left a (omega arith) in
    let out : c ≤ far * a = omega (arith, ha) in
    grind (arith, nat_tests))
    (λ (h : far ≤ (c - 1) / a).
    let most : a * far ≤ a * ((c - 1) / a) = mul-le-mul_left a h in
    let inside : far * a < c = omega (arith, ha) in
    grind (arith, nat_tests))
    (cases_lt ((c - 1) / a) far)

-- the same with the factors of the error test
pub farthest_passes : (a c far allowed over error height under : ℕ) → 0 < a → 0 < c
    → far ≤ distance_limit
    → a ≡ allowed * 2 * over * 1000 → c ≡ error * (height * under * 16)
    → leb far (min ((c - 1) / a) (2 ^ 64 - 1))
    ≡ ltb (allowed * 2 * over * far * 1000) (error * height * under * 16)
farthest_passes a c far allowed over error height under ha hc small factor coarse =
    let left : far * a ≡ allowed * 2 * over * far * 1000 = ap (λ n. far * n) factor ∙ omega arith in
    let right : c ≡ error * height * under * 16 = coarse ∙ omega arith in
    sym (farthest a c far ha hc small)
    ∙ (ap (λ n. ltb n c) left ∙ ap (λ n. ltb (allowed * 2 * over * far * 1000) n) right)

-- an error of nothing is never too great
pub none_passes : (c error height under far : ℕ) → c ≤ 0 → c ≡ error * (height * under * 16)
    → ltb 0 c ≡ ltb far (error * height * under * 16)
none_passes c error height under far none coarse =
    let right : c ≡ error * height * under * 16 = coarse ∙ omega arith in
    grind (arith, nat_tests)
