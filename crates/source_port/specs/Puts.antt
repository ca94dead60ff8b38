-- What a put of every sink writes, and what it counts.
use Rattle.std.specs.Prelude.{◌≡◌, ℕ, ◌≤◌, List, ◌++◌, Option, Result, Ok, Err}
use Rattle.std.specs.Io.KnownBytes.{Appends, Keeps}
use Rattle.source_port.specs.Counts.{Counts, HasRisen, next_count, after_call, after_fault}
use Rattle.source_port.specs.declared.sink.PutError.{PutError}
use Rattle.source_port.specs.declared.sink.PutError.TheVariants.{SinkFailed, OutOfMemory}

-- where the sink tells what it holds, a prefix of the bytes was put behind it
pub record AppendsPrefix (old new : Option (List ℕ)) (bytes : List ℕ) : Type 0 where
  pub front : List ℕ
  pub rest : List ℕ
  pub parts : bytes ≡ front ++ rest
  pub appended : Appends old new front

-- what a put gives
abbrev pub Put : Type 0
Put = Result (Unit {0}) PutError

-- the piece was put, or where the sink failed a prefix of it, or where memory ran out nothing
abbrev pub Writes : Put → Option (List ℕ) → Option (List ℕ) → List ℕ → Type 0
Writes (Ok done) old new piece = Appends old new piece
Writes (Err SinkFailed) old new piece = AppendsPrefix old new piece
Writes (Err OutOfMemory) old new piece = Keeps old new

-- the count of faults rises where a put fails, and stays where it ends otherwise
abbrev pub RisesAtFailure : Put → ℕ → ℕ → Type 0
RisesAtFailure (Ok done) old new = new ≡ old
RisesAtFailure (Err SinkFailed) old new = HasRisen old new × (old ≤ new)
RisesAtFailure (Err OutOfMemory) old new = new ≡ old

-- each put is counted, but for one that found no memory
abbrev pub CountsPut : Put → ℕ → ℕ → Type 0
CountsPut (Ok done) old new = new ≡ next_count old
CountsPut (Err SinkFailed) old new = new ≡ next_count old
CountsPut (Err OutOfMemory) old new = new ≡ old

-- the counts of a sink that counts nothing but failures as faults, and never wants memory
abbrev pub CountsExactly : Put → Counts → Counts → Type 0
CountsExactly (Ok done) old new = new ≡ after_call old
CountsExactly (Err SinkFailed) old new = new ≡ after_fault old
CountsExactly (Err OutOfMemory) old new = ⊥
