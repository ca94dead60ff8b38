-- Sources and sinks in memory: what each call answers, and what it leaves.
use Rattle.std.specs.Prelude.{◌≡◌, ℕ, ◌+◌, List, [], ◌++◌, length, Bool, true, false, ◌==◌, nat_lt, Option, Some, None, Result, Ok, Err, if◌then◌else◌}
use Rattle.std.specs.List.{list_any}
use Rattle.source_port.specs.Counts.{next_count}
use Rattle.source_port.specs.Library.{Library, bytes_at}
use Rattle.source_port.specs.declared.source.FetchError.{FetchError}
use Rattle.source_port.specs.declared.source.FetchError.TheVariants as fetches
use Rattle.source_port.specs.declared.sink.PutError.{PutError}
use Rattle.source_port.specs.declared.sink.PutError.TheVariants as puts

abbrev pub is_listed : List ℕ → ℕ → Bool
is_listed numbers number = list_any (λ n. n == number) numbers

-- what a fetch is to answer
pub data Answer : Type 0 where
  found : List ℕ → Answer
  missing : Answer
  too_long : Answer
  failed : Answer

abbrev pub within : ℕ → Option (List ℕ) → Answer
within limit None = missing
within limit (Some bytes) = if nat_lt limit (length bytes) then too_long else found bytes

-- what a library answers of an address
abbrev pub answer_of : Library → List ℕ → ℕ → Answer
answer_of library address limit = within limit (bytes_at library address)

-- a source with a library: the numbers of the fetches that fail, how many fetches were numbered, and how many failed
pub record MemoryParts : Type 0 where
  pub files : Library
  pub failing : List ℕ
  pub fetched : ℕ
  pub faults : ℕ

abbrev pub new_source : Library → List ℕ → MemoryParts
new_source files failing = record { files = files; failing = failing; fetched = 0; faults = 0 }

-- the next fetch is one of those that fail
abbrev pub fails_next : MemoryParts → Bool
fails_next source = is_listed source.failing (next_count source.fetched)

abbrev pub numbered_answer : MemoryParts → List ℕ → ℕ → Answer
numbered_answer source address limit = if fails_next source then failed else answer_of source.files address limit

-- the source behind a fetch that took a number
abbrev pub after_fetch : MemoryParts → MemoryParts
after_fetch source =
    record source {
      fetched = next_count source.fetched;
      faults = if fails_next source then next_count source.faults else source.faults;
    }

-- a steady source: its library, and how many fetches were numbered
pub record SteadyParts : Type 0 where
  pub files : Library
  pub fetched : ℕ

abbrev pub new_steady : Library → SteadyParts
new_steady files = record { files = files; fetched = 0 }

-- these are the bytes that were asked for, and only they take memory
abbrev pub is_found : Answer → Bool
is_found (found bytes) = true
is_found missing = false
is_found too_long = false
is_found failed = false

-- the fetch answered so, or memory ran out for the bytes that it found
abbrev pub Gives : Result (Unit {0}) FetchError → List ℕ → Answer → Type 0
Gives (Ok done) into answer = answer ≡ found into
Gives (Err fetches.Missing) into answer = answer ≡ missing
Gives (Err fetches.TooLong) into answer = answer ≡ too_long
Gives (Err fetches.Failed) into answer = answer ≡ failed
Gives (Err fetches.OutOfMemory) into answer = is_found answer ≡ true

-- a fetch takes a number, unless memory ran out: the source is then this one
abbrev pub TakesNumber : {S : Type 0} → Result (Unit {0}) FetchError → S → S → S → Type 0
TakesNumber (Ok done) old after new = new ≡ after
TakesNumber (Err fetches.Missing) old after new = new ≡ after
TakesNumber (Err fetches.TooLong) old after new = new ≡ after
TakesNumber (Err fetches.Failed) old after new = new ≡ after
TakesNumber (Err fetches.OutOfMemory) old after new = new ≡ old

-- a sink: what it holds, the numbers of the puts that fail, how many puts were numbered, and how many failed
pub record SinkParts : Type 0 where
  pub bytes : List ℕ
  pub failing : List ℕ
  pub puts : ℕ
  pub faults : ℕ

abbrev pub new_sink : List ℕ → SinkParts
new_sink failing = record { bytes = []; failing = failing; puts = 0; faults = 0 }

abbrev pub put_fails : SinkParts → Bool
put_fails sink = is_listed sink.failing (next_count sink.puts)

-- the sink behind a put of a piece that was kept, and behind one that failed
abbrev pub after_put : SinkParts → List ℕ → SinkParts
after_put sink piece = record sink { bytes = sink.bytes ++ piece; puts = next_count sink.puts }

abbrev pub after_failed_put : SinkParts → SinkParts
after_failed_put sink = record sink { puts = next_count sink.puts; faults = next_count sink.faults }

-- exactly the puts with those numbers fail; a put that finds no memory is none of them, and takes no number
abbrev pub Puts : Result (Unit {0}) PutError → SinkParts → SinkParts → List ℕ → Type 0
Puts (Ok done) old new piece = (put_fails old ≡ false) × (new ≡ after_put old piece)
Puts (Err puts.SinkFailed) old new piece = (put_fails old ≡ true) × (new ≡ after_failed_put old)
Puts (Err puts.OutOfMemory) old new piece = (put_fails old ≡ false) × (new ≡ old)
