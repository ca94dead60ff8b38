-- Morton numbers (OGC 22-025r4, "Morton Order"): the binary digits of places, taken in turn.
use Rattle.std.specs.Prelude.{ℕ, zero, suc, ◌+◌, ◌*◌, ◌/◌, ◌%◌}

-- The sum of x_i * 2 ^ (2 * i) and y_i * 2 ^ (2 * i + 1) over the lowest k binary digits x_i and
-- y_i.
unfoldable pub interleaved2 : ℕ → ℕ → ℕ → ℕ
interleaved2 zero x y = 0
interleaved2 (suc k) x y = x % 2 + 2 * (y % 2) + 4 * interleaved2 k (x / 2) (y / 2)

-- The sum of x_i * 2 ^ (3 * i), y_i * 2 ^ (3 * i + 1) and z_i * 2 ^ (3 * i + 2) over the lowest k
-- binary digits x_i, y_i and z_i.
unfoldable pub interleaved3 : ℕ → ℕ → ℕ → ℕ → ℕ
interleaved3 zero x y z = 0
interleaved3 (suc k) x y z =
    x % 2 + 2 * (y % 2) + 4 * (z % 2) + 8 * interleaved3 k (x / 2) (y / 2) (z / 2)
