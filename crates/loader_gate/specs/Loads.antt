-- What the load of a job counts.
use Rattle.std.specs.Prelude.{◌≡◌, ℕ, ◌⊎◌, List, ◌++◌}
use Rattle.source_port.specs.Counts.{next_count}
use Rattle.loader_gate.specs.Outcomes.{risen_count}

-- where the source's count of faults rose the new one is added to a desk's, and else none
abbrev pub AddsCount : ℕ → ℕ → List ℕ → List ℕ → Type 0
AddsCount old new counts added = added ≡ counts ++ risen_count old new

-- at most one fetch was counted
abbrev pub FetchesOnce : ℕ → ℕ → Type 0
FetchesOnce old new = (new ≡ old) ⊎ (new ≡ next_count old)
