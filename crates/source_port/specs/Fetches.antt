-- What a fetch of every source answers, and what it counts.
use Rattle.std.specs.Prelude.{◌≡◌, ℕ, ◌≤◌, List, length, Option, Result, Ok, Err}
use Rattle.source_port.specs.Counts.{Counts, HasRisen, next_count, after_call, after_fault}
use Rattle.source_port.specs.Library.{Library, HasBytes, Lacks, PassesLimit}
use Rattle.source_port.specs.declared.source.FetchError.{FetchError}
use Rattle.source_port.specs.declared.source.FetchError.TheVariants.{Missing, TooLong, Failed, OutOfMemory}

-- what a fetch gives
abbrev pub Fetched : Type 0
Fetched = Result (Unit {0}) FetchError

-- where the library is told: it has these bytes at the address, and they are within the limit; it has
-- none there; or it has more than the limit
abbrev pub Answers : Fetched → Option Library → List ℕ → ℕ → List ℕ → Type 0
Answers (Ok done) library address limit bytes = HasBytes library address bytes × (length bytes ≤ limit)
Answers (Err Missing) library address limit bytes = Lacks library address
Answers (Err TooLong) library address limit bytes = PassesLimit library address limit
Answers (Err Failed) library address limit bytes = Unit {0}
Answers (Err OutOfMemory) library address limit bytes = Unit {0}

-- the count of faults rises where a fetch fails, and stays where it ends otherwise
abbrev pub RisesAtFailure : Fetched → ℕ → ℕ → Type 0
RisesAtFailure (Ok done) old new = new ≡ old
RisesAtFailure (Err Missing) old new = new ≡ old
RisesAtFailure (Err TooLong) old new = new ≡ old
RisesAtFailure (Err Failed) old new = HasRisen old new × (old ≤ new)
RisesAtFailure (Err OutOfMemory) old new = new ≡ old

-- each fetch is counted, but for one that found no memory
abbrev pub CountsFetch : Fetched → ℕ → ℕ → Type 0
CountsFetch (Ok done) old new = new ≡ next_count old
CountsFetch (Err Missing) old new = new ≡ next_count old
CountsFetch (Err TooLong) old new = new ≡ next_count old
CountsFetch (Err Failed) old new = new ≡ next_count old
CountsFetch (Err OutOfMemory) old new = new ≡ old

-- the counts of a source that counts nothing but failures as faults
abbrev pub CountsExactly : Fetched → Counts → Counts → Type 0
CountsExactly (Ok done) old new = new ≡ after_call old
CountsExactly (Err Missing) old new = new ≡ after_call old
CountsExactly (Err TooLong) old new = new ≡ after_call old
CountsExactly (Err Failed) old new = new ≡ after_fault old
CountsExactly (Err OutOfMemory) old new = new ≡ old
