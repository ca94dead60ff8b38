-- What the private steps answer that read a whole number.
use Rattle.std.specs.Prelude.{ℕ, ◌/◌, ◌%◌, ◌==◌, if◌then◌else◌, Option, Some, None}

-- the quotient, where nothing is left over
abbrev pub exact_quotient : ℕ → ℕ → Option ℕ
exact_quotient n d = if n % d == 0 then Some (n / d) else None
