-- What a job may end with.
use Rattle.std.specs.Prelude.{◌≡◌, ◌≢◌, ℕ, ◌<◌, ◌≤◌, ◌⊎◌, if◌then◌else◌, nat_lt, List, [], ◌∷◌, length, Option, Ok, Err}
use Rattle.tile_types.specs.declared.job.Job.{Job}
use Rattle.source_port.specs.declared.source.FetchError.{FetchError}
use Rattle.source_port.specs.declared.source.FetchError.TheVariants as fetch
use Rattle.source_port.specs.Counts.{Counts}
use Rattle.source_port.specs.Fetches.{Answers, CountsFetch, Fetched, RisesAtFailure}
use Rattle.source_port.specs.Library.{HasBytes, Lacks, Library, PassesLimit}
use Rattle.loader_gate.specs.declared.outcome.Outcome.{Outcome}
use Rattle.loader_gate.specs.declared.outcome.Outcome.TheVariants.{Failed, Got, Missing, Starved, TooLong}

-- where the library is told: it has these bytes at the job's address; it has nothing there; or it has
-- more than the job's limit
abbrev pub IsTrueOf : Option Library → Job → Outcome → Type 0
IsTrueOf library job (Got bytes) = HasBytes library job.key.address bytes
IsTrueOf library job Missing = Lacks library job.key.address
IsTrueOf library job TooLong = PassesLimit library job.key.address job.limit
IsTrueOf library job (Failed count) = Unit {0}
IsTrueOf library job Starved = Unit {0}

-- the bytes that it has are at most so many
abbrev pub IsWithin : ℕ → Outcome → Type 0
IsWithin limit (Got bytes) = length bytes ≤ limit
IsWithin limit Missing = Unit {0}
IsWithin limit TooLong = Unit {0}
IsWithin limit (Failed count) = Unit {0}
IsWithin limit Starved = Unit {0}

abbrev pub IsGot : Outcome → Type 0
IsGot (Got bytes) = Unit {0}
IsGot Missing = ⊥
IsGot TooLong = ⊥
IsGot (Failed count) = ⊥
IsGot Starved = ⊥

-- ---- counts of faults

-- the count that an outcome tells
abbrev pub counts_of : Outcome → List ℕ
counts_of (Got bytes) = []
counts_of Missing = []
counts_of TooLong = []
counts_of (Failed count) = count ∷ []
counts_of Starved = []

-- the last of the counts, and 0 where there is none
abbrev pub latest_count : List ℕ → ℕ
latest_count [] = 0
latest_count (count ∷ []) = count
latest_count (count ∷ next ∷ counts) = latest_count (next ∷ counts)

-- the count that it tells is above another
abbrev pub IsAbove : ℕ → Outcome → Type 0
IsAbove latest (Got bytes) = Unit {0}
IsAbove latest Missing = Unit {0}
IsAbove latest TooLong = Unit {0}
IsAbove latest (Failed count) = latest < count
IsAbove latest Starved = Unit {0}

-- the new count of faults, where it is above the old one
abbrev pub risen_count : ℕ → ℕ → List ℕ
risen_count old new = if nat_lt old new then new ∷ [] else []

-- ---- what a fetch is delivered as

-- what a fetch that failed is delivered as, with the counts of faults before it and behind it: where the
-- count stood at the last value of its type there is none to tell, and the job is starved
abbrev pub outcome_of_failure : ℕ → ℕ → Outcome
outcome_of_failure old new = if nat_lt old new then Failed new else Starved

-- what a fetch that gave no bytes is delivered as
abbrev pub outcome_without_bytes : FetchError → ℕ → ℕ → Outcome
outcome_without_bytes fetch.Missing old new = Missing
outcome_without_bytes fetch.TooLong old new = TooLong
outcome_without_bytes fetch.Failed old new = outcome_of_failure old new
outcome_without_bytes fetch.OutOfMemory old new = Starved

-- what bytes are delivered as: to count their owners takes memory, but where there are none
abbrev pub KeepsBytes : List ℕ → Outcome → Type 0
KeepsBytes bytes outcome = (outcome ≡ Got bytes) ⊎ ((bytes ≢ []) × (outcome ≡ Starved))

-- what each answer of a fetch is delivered as
abbrev pub IsDeliveredAs : Fetched → List ℕ → ℕ → ℕ → Outcome → Type 0
IsDeliveredAs (Ok done) bytes old new outcome = KeepsBytes bytes outcome
IsDeliveredAs (Err error) bytes old new outcome = outcome ≡ outcome_without_bytes error old new

-- a source was asked once for the bytes of a job, and its answer is delivered so
pub record IsLoaded (library : Option Library) (job : Job) (old new : Counts) (outcome : Outcome)
    : Type 0 where
  pub answer : Fetched
  pub bytes : List ℕ
  pub answers : Answers answer library job.key.address job.limit bytes
  pub calls : CountsFetch answer old.calls new.calls
  pub faults : RisesAtFailure answer old.faults new.faults
  pub delivered : IsDeliveredAs answer bytes old.faults new.faults outcome
