-- Square roots of whole numbers.
use Prim.Native.Nat.{zero, suc}
use Rattle.std.specs.Prelude.{ℕ, ◌+◌, ◌*◌, ◌^◌, if◌then◌else◌, ◌==◌, nat_le}

-- what every root of a number below 2 ^ 128 is at most
abbrev pub root_limit : ℕ
root_limit = 2 ^ 64

-- the greatest whole number whose square is at most n: one more than that of n - 1, or the same
unfoldable pub floor_root : ℕ → ℕ
floor_root zero = 0
floor_root (suc n) =
    if nat_le ((floor_root n + 1) * (floor_root n + 1)) (suc n)
    then floor_root n + 1
    else floor_root n

-- the least whole number whose square is at least n
abbrev pub ceiling_root : ℕ → ℕ
ceiling_root n = if floor_root n * floor_root n == n then floor_root n else floor_root n + 1
