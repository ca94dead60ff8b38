-- What is noted of the end of a job.
use Rattle.std.specs.Prelude.{ℕ, ◌≤◌, ◌<◌, if◌then◌else◌, List, length}
use Rattle.tile_types.specs.declared.key.Key.{Key}
use Rattle.content_digest.specs.Facts.{facts_of}
use Rattle.doc_store.specs.Docs.{is_content}
use Rattle.loader_gate.specs.declared.outcome.Outcome.{Outcome}
use Rattle.loader_gate.specs.declared.outcome.Outcome.TheVariants.{Failed, Got, Missing, Starved, TooLong}
use Rattle.engine_state.specs.declared.entry.Entry.{Entry}
use Rattle.engine_state.specs.declared.entry.Entry.TheVariants as entry
use Rattle.engine_state.specs.declared.gone.Gone.TheVariants as gone
use Rattle.engine_state.specs.State.{State}
use Rattle.engine_state.specs.Room.{evicted, fits, has_room}
use Rattle.engine_state.specs.Allowed.{last_count}
use Rattle.engine_state.specs.Agreement.{limit_of}

-- what a job may end with: bytes within the limit of its kind, and a count of faults above the pass's
-- last one
abbrev pub MayEnd : State → ℕ → Key → Outcome → Type 0
MayEnd s pass key (Got bytes) = length bytes ≤ limit_of key
MayEnd s pass key (Failed count) = last_count s.faults pass < count
MayEnd s pass key Missing = Unit {0}
MayEnd s pass key TooLong = Unit {0}
MayEnd s pass key Starved = Unit {0}

-- of a content that came: what goes for it, or that it is squeezed
abbrev pub content_entry : State → ℕ → Key → List ℕ → Entry
content_entry s pass key bytes =
    if fits s (length bytes)
    then entry.ContentArrived pass key.address (length bytes) (facts_of bytes).digest
    (evicted s (length bytes))
    else entry.Squeezed pass key.address (length bytes)

-- of a document that came: where the store has no room for it, nothing comes of it
abbrev pub document_entry : State → ℕ → Key → List ℕ → Entry
document_entry s pass key bytes =
    if has_room s.loaded (length bytes) then entry.DocumentArrived pass key bytes
    else entry.Absent pass key gone.StoreFull

-- of what a job ends with
abbrev pub entry_of : State → ℕ → Key → Outcome → Entry
entry_of s pass key (Got bytes) =
    if is_content key then content_entry s pass key bytes else document_entry s pass key bytes
entry_of s pass key Missing = entry.Absent pass key gone.Missing
entry_of s pass key TooLong = entry.Absent pass key gone.TooLong
entry_of s pass key (Failed count) = entry.Failed pass key count
entry_of s pass key Starved = entry.Starved pass key
