-- The source and the output before a run and after it, as far as they tell.
use Rattle.std.specs.Prelude.{◌≡◌, ℕ, List, Option}
use Rattle.source_port.specs.Counts.{HasRisen}
use Rattle.source_port.specs.Library.{Library}

pub record Change : Type 0 where
  pub before : ℕ
  pub after : ℕ

-- of a source: its library, which stays, and its counts
pub record SourceRun : Type 0 where
  pub library : Option Library
  pub faults : Change
  pub fetches : Change

abbrev pub source_run : {S : Type 0} → (S → Option Library) → (S → ℕ) → (S → ℕ) → S → S → SourceRun
source_run library faults fetches old new = record {
  library = library old;
  faults = record { before = faults old; after = faults new };
  fetches = record { before = fetches old; after = fetches new };
}

-- of an output: what it held before the run, what it holds, and its counts
pub record OutRun : Type 0 where
  pub held : Option (List ℕ)
  pub holds : Option (List ℕ)
  pub faults : Change
  pub puts : Change

abbrev pub out_run : {W : Type 0} → (W → Option (List ℕ)) → (W → ℕ) → (W → ℕ) → W → W → OutRun
out_run written faults puts old new = record {
  held = written old;
  holds = written new;
  faults = record { before = faults old; after = faults new };
  puts = record { before = puts old; after = puts new };
}

-- the count is as it was
abbrev pub Stays : Change → Type 0
Stays count = count.after ≡ count.before

-- the count of faults rose, and came to this
pub record HasRisenTo (faults : Change) (count : ℕ) : Type 0 where
  pub counted : count ≡ faults.after
  pub risen : HasRisen faults.before faults.after
