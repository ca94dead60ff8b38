-- Chains of steps that may give nothing.
use Rattle.std.specs.Prelude.{Option, Some, None}

-- what the second step makes of what the first gives
infixl 10 ◌>>=◌
abbrev pub ◌>>=◌ : {A B : Type 0} → Option A → (A → Option B) → Option B
None >>= f = None
(Some x) >>= f = f x
