-- Powers of two, shifts and masks.
use Rattle.std.proofs.Common.{◌≡◌, ℕ, ◌+◌, ◌-◌, ◌*◌, ◌%◌, ◌^◌, ◌<◌, ◌≤◌, sym, arith}
use Rattle.std.specs.Prelude.{bit_and}
use Rattle.std.proofs.Math.Nat.{pow-le-pow_right}
use Rattle.std.proofs.lemmas.Nat.{and_mask, mul-pow, one_shl, pow-add}

-- more digits, greater powers
pub powers_grow : (i j : ℕ) → i ≤ j → 2 ^ i ≤ 2 ^ j
powers_grow i j h = pow-le-pow_right {n = 2} (omega arith) h

pub below_power : (n i j : ℕ) → i ≤ j → n < 2 ^ i → n < 2 ^ j
below_power n i j h g = omega (arith, powers_grow i j h)

pub power_of_four : (k : ℕ) → 2 ^ (2 * k) ≡ 4 ^ k
power_of_four k =
    let twice : 2 * k ≡ k + k = omega arith in rw (twice, pow-add 2 k k) (sym (mul-pow 2 2 k))

pub power_of_eight : (k : ℕ) → 2 ^ (3 * k) ≡ 8 ^ k
power_of_eight k =
    let thrice : 3 * k ≡ k + 2 * k = omega arith in
    rw (thrice, pow-add 2 k (2 * k), power_of_four k) (sym (mul-pow 2 4 k))

-- `n & ((1 << k) - 1)`
pub masked : (n k : ℕ) → k < 32 → bit_and n ((1 * 2 ^ k) % 2 ^ 32 - 1) ≡ n % 2 ^ k
masked n k h = rw (one_shl k 32 h) (and_mask n k)
