-- The latest count behind what a job ended with.
use Rattle.std.specs.Prelude.{if◌then◌else◌}
use Rattle.std.proofs.Common.{◌≡◌, ℕ, ◌≤◌, Bool, true, false, nat_lt, List, [], ◌∷◌, ◌++◌, ap, arith, refl}
use Rattle.loader_gate.specs.Outcomes.{latest_count, risen_count}

append_none : (counts : List ℕ) → counts ++ [] ≡ counts
append_none [] = refl
append_none (count ∷ counts) = ap (λ cs. count ∷ cs) (append_none counts)

latest_pushed : (counts : List ℕ) (count : ℕ) → latest_count (counts ++ count ∷ []) ≡ count
latest_pushed [] count = refl
latest_pushed (first ∷ []) count = refl
latest_pushed (first ∷ next ∷ counts) count = latest_pushed (next ∷ counts) count

-- the latest count of a desk's pass stays at most the source's
pub latest_after : (old new : ℕ) (counts : List ℕ) → latest_count counts ≤ old → old ≤ new
    → latest_count (counts ++ risen_count old new) ≤ new
latest_after old new counts before rises = by (nat_lt old new)
  where
    by : (b : Bool) → latest_count (counts ++ (if b then new ∷ [] else [])) ≤ new
    by true = rw (latest_pushed counts new) (omega arith)
    by false = rw (append_none counts) (omega (arith, before, rises))
