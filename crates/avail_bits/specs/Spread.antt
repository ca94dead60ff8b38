-- The digits of one place inside a Morton number.
use Rattle.std.specs.Prelude.{ℕ, zero, suc, ◌+◌, ◌*◌, ◌/◌, ◌%◌}

-- the sum of x_i * n ^ i over the lowest k binary digits x_i
unfoldable pub spread : ℕ → ℕ → ℕ → ℕ
spread n zero x = 0
spread n (suc k) x = x % 2 + n * spread n k (x / 2)

-- the sum of b_i * 2 ^ i, where b_i is the lowest binary digit of digit i of m to the base n
unfoldable pub gather : ℕ → ℕ → ℕ → ℕ
gather n zero m = 0
gather n (suc k) m = m % 2 + 2 * gather n k (m / n)
