-- What putting lines one by one leaves.
use Rattle.std.specs.Prelude.{◌≡◌, List, ℕ, length, Ok, Err}
use Rattle.std.specs.Io.KnownBytes.{Appends}
use Rattle.source_port.specs.Counts.{HasRisen, count_after}
use Rattle.source_port.specs.Puts.{AppendsPrefix, Put}
use Rattle.source_port.specs.declared.sink.PutError.TheVariants.{SinkFailed, OutOfMemory}
use Rattle.stream_cli.specs.Report.{joined}
use Rattle.stream_cli.specs.Sides.{OutRun, HasRisenTo, Stays}
use Rattle.stream_cli.specs.declared.cause.Cause.{Cause}
use Rattle.stream_cli.specs.declared.cause.Cause.TheVariants.{Done, Out, Memory}

-- the output gained these lines, each by one put, and none failed
pub record GainsLines (out : OutRun) (lines : List (List ℕ)) : Type 0 where
  pub gained : Appends out.held out.holds (joined lines)
  pub puts : out.puts.after ≡ count_after (length lines) out.puts.before
  pub unfailed : Stays out.faults

-- the output gained a prefix of the text of these lines
abbrev pub GainsSome : OutRun → List (List ℕ) → Type 0
GainsSome out lines = AppendsPrefix out.held out.holds (joined lines)

-- memory ran out, and no put failed
abbrev pub GainsAtMost : OutRun → List (List ℕ) → Type 0
GainsAtMost out lines = Stays out.faults × GainsSome out lines

-- what putting these lines leaves
abbrev pub PutsLines : Put → OutRun → List (List ℕ) → Type 0
PutsLines (Ok done) out lines = GainsLines out lines
PutsLines (Err SinkFailed) out lines =
    HasRisen out.faults.before out.faults.after × GainsSome out lines
PutsLines (Err OutOfMemory) out lines = GainsAtMost out lines

-- what a run ends with that prints these lines
abbrev pub IsPrintCause : OutRun → List (List ℕ) → Cause → Type 0
IsPrintCause out lines Done = GainsLines out lines
IsPrintCause out lines (Out count) = HasRisenTo out.faults count × GainsSome out lines
IsPrintCause out lines Memory = GainsAtMost out lines
IsPrintCause out lines _ = ⊥

-- what a run ends with whose printing ended so, with the count of faults of its output
abbrev pub IsPrinted : Put → ℕ → Cause → Type 0
IsPrinted (Ok done) count cause = cause ≡ Done
IsPrinted (Err SinkFailed) count cause = cause ≡ Out count
IsPrinted (Err OutOfMemory) count cause = cause ≡ Memory
