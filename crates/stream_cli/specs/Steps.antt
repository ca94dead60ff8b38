-- What the steps of loading leave, each behind the one before.
use Rattle.std.specs.Prelude.{ℕ, ◌≡◌, ◌⊎◌, ◌+◌, Option, Err, List, All}
use Rattle.source_port.specs.Library.{Library}
use Rattle.tile_types.specs.declared.key.Key.{Key}
use Rattle.doc_store.specs.Store.{Stored}
use Rattle.words_table.specs.declared.command.Command.{Command}
use Rattle.error_test.specs.Views.{ViewParts}
use Rattle.expanded_tree.specs.Tree.{Tree}
use Rattle.cut_core.specs.Visits.{VisitsTooMany}
use Rattle.tileset_schema.specs.Documents.{document}
use Rattle.stream_cli.specs.Awaited.{IsEarlier, WasAwaited}
use Rattle.stream_cli.specs.Loading.{Fetches, IsAbsent, IsFault, IsLoadedFrom, IsRefused, IsShort, asked_for}
use Rattle.stream_cli.specs.Looks.{EndsLook, OfCommand}
use Rattle.stream_cli.specs.Sides.{OutRun, SourceRun, Stays}
use Rattle.stream_cli.specs.declared.cause.Cause.{Cause}
use Rattle.stream_cli.specs.declared.cause.Cause.TheVariants as cause

-- ---- the root document

-- why bytes give no root document
abbrev pub IsReadCause : List ℕ → List ℕ → Cause → Type 0
IsReadCause root bytes cause.Memory = Unit {0}
IsReadCause root bytes (cause.Document error) = document bytes root ≡ Err error
IsReadCause root bytes _ = ⊥

-- why a root document gives no store
abbrev pub IsOpenCause : List ℕ → SourceRun → Cause → Type 0
IsOpenCause root source cause.Memory = IsShort root source
IsOpenCause root source (cause.Source count) = IsFault source count
IsOpenCause root source (cause.Document error) = IsRefused root source error
IsOpenCause root source (cause.RootAbsent why) = IsAbsent why root source
IsOpenCause root source _ = ⊥

-- ---- further documents

-- so many documents of such keys were asked for, on top of what there was
pub record AsksFor (library : Option Library) (wanted : Key → Type 0) (old new : Stored)
    (more : ℕ) : Type 0 where
  pub before : IsEarlier old new
  pub documents : All (λ l. wanted l.key) before.added
  pub keys : All wanted before.marked
  pub from_library : IsLoadedFrom library old → IsLoadedFrom library new
  pub asked : asked_for new ≡ asked_for old + more

-- the same, each by one fetch, of which none failed
pub record LoadsOn (source : SourceRun) (wanted : Key → Type 0) (old new : Stored) : Type 0 where
  pub more : ℕ
  pub asks : AsksFor source.library wanted old new more
  pub fetches : Fetches source more
  pub unfailed : Stays source.faults

-- why loading stops
abbrev pub IsLoadCause : SourceRun → Cause → Type 0
IsLoadCause source cause.Memory = Stays source.faults
IsLoadCause source (cause.Source count) = IsFault source count
IsLoadCause source _ = ⊥

-- ---- the size of the tree

-- why a view waits for nothing: it visits too many nodes
abbrev pub IsVisitCause : ViewParts → Option Tree → Cause → Type 0
IsVisitCause view root cause.Memory = Unit {0}
IsVisitCause view root cause.Tiles = VisitsTooMany view root
IsVisitCause view root _ = ⊥

-- ---- the rounds

-- so many documents were loaded, and a look at their tree ended so
pub record LooksBehind (command : Command) (source : SourceRun) (old : Stored) (out : OutRun)
    (unprinted : Type 0) (cause : Cause) : Type 0 where
  pub new : Stored
  pub more : ℕ
  pub asks : AsksFor source.library (WasAwaited command new) old new more
  pub ends : EndsLook (OfCommand command new) source more out unprinted cause

-- how the rounds of a command end: loading stopped, and the output is as it was; or documents were
-- loaded, and a look at their tree ended so
abbrev pub EndsRounds : Command → SourceRun → Stored → OutRun → Type 0 → Cause → Type 0
EndsRounds command source old out unprinted cause =
    (IsLoadCause source cause × unprinted)
    ⊎ LooksBehind command source old out unprinted cause
