-- Numbers within a limit, and past it.
use Rattle.std.proofs.Common.{◌≡◌, ℕ, ◌≤◌, ◌<◌, true, false, arith, rules}
use Rattle.std.specs.Prelude.{nat_le}

pub is_within : (n limit : ℕ) → n ≤ limit → nat_le n limit ≡ true
is_within n limit h = search (rules, arith)

pub isnt_within : (n limit : ℕ) → limit < n → nat_le n limit ≡ false
isnt_within n limit h = search (rules, arith)
