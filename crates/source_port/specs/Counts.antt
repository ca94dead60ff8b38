-- Counts of calls and of faults, which never fall.
use Rattle.std.specs.Prelude.{◌≡◌, ◌⊎◌, ℕ, zero, suc, ◌+◌, ◌<◌, ◌-◌, ◌^◌, min}

-- where a count stands still, since its type has no further number
abbrev pub last_count : ℕ
last_count = 2 ^ 64 - 1

-- the next number of a count
abbrev pub next_count : ℕ → ℕ
next_count count = min (count + 1) last_count

-- the count after so many more calls
abbrev pub count_after : ℕ → ℕ → ℕ
count_after zero count = count
count_after (suc calls) count = next_count (count_after calls count)

-- the count rose, or stands at its last value
abbrev pub HasRisen : ℕ → ℕ → Type 0
HasRisen old new = (old < new) ⊎ (new ≡ last_count)

-- how many calls were answered, want of memory aside, and how many of them failed
pub record Counts : Type 0 where
  pub calls : ℕ
  pub faults : ℕ

abbrev pub no_calls : Counts
no_calls = record { calls = 0; faults = 0 }

-- after a call that didn't fail, and after one that did
abbrev pub after_call : Counts → Counts
after_call counts = record counts { calls = next_count counts.calls }

abbrev pub after_fault : Counts → Counts
after_fault counts = record { calls = next_count counts.calls; faults = next_count counts.faults }
