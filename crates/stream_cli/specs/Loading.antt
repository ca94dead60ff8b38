-- What loading documents from a source leaves.
use Rattle.std.specs.Prelude.{ℕ, ◌≡◌, ◌⊎◌, ◌≤◌, ◌+◌, Option, Err, List, ◌∷◌, length, All}
use Rattle.tile_types.specs.declared.key.Key.{Key}
use Rattle.source_port.specs.Counts.{count_after}
use Rattle.source_port.specs.Library.{Library, HasBytes, Lacks, PassesLimit}
use Rattle.doc_store.specs.Docs.{Loaded, tileset_key}
use Rattle.doc_store.specs.Store.{Stored, IsAlone, IsFull}
use Rattle.doc_store.specs.declared.limits.TheConstants.{DOCUMENT_LIMIT}
use Rattle.tileset_schema.specs.Documents.{document}
use Rattle.tileset_schema.specs.declared.error.DocumentError.{DocumentError}
use Rattle.words_table.specs.declared.command.Command.{Command}
use Rattle.words_table.specs.declared.command.Command.TheVariants.{Cut, Tiles, Meta}
use Rattle.stream_cli.specs.Awaited.{WasAwaited}
use Rattle.stream_cli.specs.Sides.{SourceRun, HasRisenTo, Stays}
use Rattle.stream_cli.specs.declared.cause.NotHere.{NotHere}
use Rattle.stream_cli.specs.declared.cause.NotHere.TheVariants.{Missing, TooLong}

-- the address of the root document
abbrev pub root_of : Command → List ℕ
root_of (Cut root view) = root
root_of (Tiles root) = root
root_of (Meta root) = root

-- so many fetches were answered
abbrev pub Fetches : SourceRun → ℕ → Type 0
Fetches source count = source.fetches.after ≡ count_after count source.fetches.before

-- these bytes were fetched: where the library is told they are its own, and they are no more than a
-- document may have
pub record IsFetched (library : Option Library) (address bytes : List ℕ) : Type 0 where
  pub there : HasBytes library address bytes
  pub within : length bytes ≤ DOCUMENT_LIMIT

-- a loaded document was fetched
abbrev pub WasFetched : Option Library → Loaded → Type 0
WasFetched library l = IsFetched library l.key.address l.bytes

-- a document was fetched for which the store has no room
pub record HasNoRoom (library : Option Library) (store : Stored) (address : List ℕ) : Type 0 where
  pub bytes : List ℕ
  pub fetched : IsFetched library address bytes
  pub full : IsFull store (length bytes)

-- why a key is absent: where the library is told, it has nothing at the address, or more bytes than
-- a document may have; or the store has no room for them
abbrev pub IsGone : Option Library → Stored → Key → Type 0
IsGone library store key =
    Lacks library key.address
    ⊎ (PassesLimit library key.address DOCUMENT_LIMIT ⊎ HasNoRoom library store key.address)

-- each loaded document was fetched, and each absent key is absent for a reason
pub record IsLoadedFrom (library : Option Library) (store : Stored) : Type 0 where
  pub loaded : All (WasFetched library) store.loaded
  pub gone : All (IsGone library store) store.gone

-- how many documents were asked for
abbrev pub asked_for : Stored → ℕ
asked_for store = length store.loaded + length store.gone

-- each of these documents and absent keys was asked for because an earlier tree waited for it
pub record WereAwaited (command : Command) (store : Stored) (others : List Loaded)
    (gone : List Key) : Type 0 where
  pub documents : All (λ l. WasAwaited command store l.key) others
  pub keys : All (WasAwaited command store) gone

-- the documents that the run of a command loaded: first the root, and then what it waited for
pub record Loads (command : Command) (library : Option Library) (store : Stored) : Type 0 where
  pub bytes : List ℕ
  pub others : List Loaded
  pub root_first : store.loaded
      ≡ record { key = tileset_key (root_of command); bytes = bytes } ∷ others
  pub awaited : WereAwaited command store others store.gone
  pub from_library : IsLoadedFrom library store

-- the store of the root document alone, which was fetched
pub record Opens (root : List ℕ) (source : SourceRun) (store : Stored) : Type 0 where
  pub bytes : List ℕ
  pub alone : IsAlone store root bytes
  pub fetched : IsFetched source.library root bytes
  pub fetches : Fetches source 1
  pub unfailed : Stays source.faults

-- ---- why documents aren't loaded

-- the root document isn't read, for this cause
pub record IsRefused (root : List ℕ) (source : SourceRun) (cause : DocumentError) : Type 0 where
  pub bytes : List ℕ
  pub fetched : IsFetched source.library root bytes
  pub refused : document bytes root ≡ Err cause
  pub fetches : Fetches source 1
  pub unfailed : Stays source.faults

-- a fetch failed, behind those of what was asked for before
pub record IsFault (source : SourceRun) (count : ℕ) : Type 0 where
  pub asked : ℕ
  pub fetches : Fetches source (asked + 1)
  pub risen : HasRisenTo source.faults count

-- where the library is told, it has no document at the address, or one that is too long
abbrev pub LacksDocument : NotHere → Option Library → List ℕ → Type 0
LacksDocument Missing library address = Lacks library address
LacksDocument TooLong library address = PassesLimit library address DOCUMENT_LIMIT

-- the root document isn't there, or is too long
pub record IsAbsent (why : NotHere) (root : List ℕ) (source : SourceRun) : Type 0 where
  pub lacks : LacksDocument why source.library root
  pub fetches : Fetches source 1
  pub unfailed : Stays source.faults

-- the root document was fetched
pub record IsReached (root : List ℕ) (source : SourceRun) : Type 0 where
  pub bytes : List ℕ
  pub fetched : IsFetched source.library root bytes

-- memory ran out: no fetch failed, and either none was answered, or the root document was fetched
pub record IsShort (root : List ℕ) (source : SourceRun) : Type 0 where
  pub unfailed : Stays source.faults
  pub reached : Stays source.fetches ⊎ IsReached root source
