-- What the desk of an engine on one thread stands for.
use Rattle.std.specs.Prelude.{ℕ, ◌≡◌, ◌≤◌, ◌<◌, false, true, IsTrue, Option, Some, None, is_some, List, [], ◌∷◌, drop, length}
use Rattle.std.specs.List.{list_all}
use Rattle.tile_types.specs.declared.job.Job.{Job}
use Rattle.source_port.specs.Library.{Library}
use Rattle.loader_gate.specs.Outcomes.{latest_count}
use Rattle.engine_state.specs.declared.entry.Entry.{Entry}
use Rattle.engine_state.specs.declared.flight.Flight.{Flight}
use Rattle.engine_state.specs.Agreement.{Agrees, limit_of}
use Rattle.engine_state.specs.Allowed.{last_count}
use Rattle.engine_state.specs.Journal.{fullness, replay}
use Rattle.engine_state.specs.Loading.{takeable}
use Rattle.engine_core.specs.Engine.{Engine}
use Rattle.session_run.specs.declared.stop.Stop.{Stop}
use Rattle.session_run.specs.declared.stop.Stop.TheVariants.{JournalFull, OutOfMemory}
use Rattle.session_run.specs.Loading.{counts_in, is_of_loads}

-- the job of what is being fetched, which is one key or none
abbrev pub job_of : List Flight → Option Job
job_of [] = None
job_of (f ∷ fs) = Some (record { key = f.key; limit = limit_of f.key; pass = f.pass })

-- nothing is being fetched, or one key by pass 0
abbrev pub IsOneAtMost : List Flight → Type 0
IsOneAtMost [] = Unit {0}
IsOneAtMost (f ∷ []) = f.pass ≡ 0
IsOneAtMost (f ∷ g ∷ fs) = ⊥

-- why there is no job any more, if that is so
abbrev pub HasStopped : Engine → Option Stop → Type 0
HasStopped engine None = Unit {0}
HasStopped engine (Some JournalFull) = engine.room < fullness engine.journal
HasStopped engine (Some OutOfMemory) = Unit {0}

-- an engine that a desk of pass 0 stands for, alone: it is open; its journal agrees with the
-- library, where it is told; and the last count of faults is the latest one of the journal
pub record IsServed (library : Option Library) (engine : Engine) : Type 0 where
  pub is_opened : (replay engine.journal).opened ≡ true
  pub is_open : (replay engine.journal).closed ≡ false
  pub flights : IsOneAtMost (replay engine.journal).flying
  pub agrees : Agrees library engine.journal
  pub latest : last_count (replay engine.journal).faults 0 ≡ latest_count (counts_in engine.journal)

-- since there were so many entries there were loads alone
pub record HasLoaded (begun : ℕ) (journal : List Entry) : Type 0 where
  pub within : begun ≤ length journal
  pub are_loads : IsTrue (list_all is_of_loads (drop begun journal))

-- nothing may be taken, and nothing is being fetched
pub record IsIdle (journal : List Entry) : Type 0 where
  pub none_left : takeable (replay journal) ≡ []
  pub none_flies : (replay journal).flying ≡ []

-- what a desk is seen as: its engine; the library that is loaded from, where it is told; how many
-- entries there were when it began with loads, or 0 where other calls may come; how often it gave
-- which answer since then; and why there is no job any more
pub record DeskParts : Type 0 where
  pub engine : Engine
  pub library : Option Library
  pub begun : ℕ
  pub jobs : ℕ
  pub idle : ℕ
  pub ended : ℕ
  pub stop : Option Stop

pub record IsDesk (d : DeskParts) : Type 0 where
  pub served : IsServed d.library d.engine
  pub loaded : 0 < d.begun → HasLoaded d.begun d.engine.journal
  pub few_jobs : d.jobs ≤ length d.engine.journal
  pub settled : 0 < d.idle → IsIdle d.engine.journal
  pub stopped : 0 < d.ended → is_some d.stop ≡ true
  pub truly : HasStopped d.engine d.stop
