-- How the parts of a core mirror the state that its journal leaves. Each record takes the parts of the
-- state that it speaks of: where an entry doesn't change these, the old fact is the new one.
use Rattle.std.specs.Prelude.{ℕ, ◌≡◌, ◌+◌, ◌^◌, ◌≤◌, ◌<◌, ◌⊎◌, Bool, true, if◌then◌else◌, Some, option_map, List, All, length, map, slice_get}
use Rattle.indexmap.specs.IndexSet.{spare}
use Rattle.tile_types.specs.declared.key.Key.{Key}
use Rattle.doc_store.specs.Docs.{Loaded}
use Rattle.doc_store.specs.Store.{Stored}
use Rattle.load_queue.specs.Queues.{Queue}
use Rattle.tile_cache.specs.Kept.{CacheState}
use Rattle.tile_cache.specs.Pins.{SamePins}
use Rattle.tile_cache.specs.Residents.{bytes_in}
use Rattle.view_notes.specs.Asking.{AreNotesOfEach}
use Rattle.view_notes.specs.Follows.{Noted}
use Rattle.engine_state.specs.declared.flight.Flight.{Flight}
use Rattle.engine_state.specs.declared.held_frame.HeldFrame.{HeldFrame}
use Rattle.engine_state.specs.declared.resident.Resident.{Resident}
use Rattle.engine_state.specs.State.{State, contents, documents}
use Rattle.engine_state.specs.Frames.{holdings, pinned, tree}
use Rattle.engine_state.specs.Loading.{queued, want}
use Rattle.engine_state.specs.Laws.{known}
use Rattle.engine_state.specs.Journal.{legal, replay}
use Rattle.engine_core.specs.declared.held_pins.FramePins.{FramePins}
use Rattle.engine_core.specs.declared.parts.Parts.{Parts}
use Rattle.engine_core.specs.Holding.{pins_of}

-- ---- frames and contents

-- the frames that are held, the residents and their pins. The addresses of a frame are a list in
-- memory: so there are never too many pins
pub record Shows (frames : List HeldFrame) (residents : List Resident) (budget : ℕ)
    (held : List FramePins) (cache : CacheState) : Type 0 where
  pub held_is : held ≡ map pins_of frames
  pub residents_is : residents ≡ map known cache.residents
  pub pins : SamePins (pinned frames) cache.pins
  pub budget_is : cache.budget ≡ budget
  pub short : All (λ frame. length frame.addresses < 2 ^ 64) held

-- ---- documents and what is absent

-- the documents, the root's first, and the addresses of the absent contents
pub record Knows (root : List ℕ) (loaded : List Loaded) (absent : List Key) (store : Stored)
    (gone : List (List ℕ)) : Type 0 where
  pub root_is : option_map (λ l. l.key.address) (slice_get loaded 0) ≡ Some root
  pub loaded_is : store.loaded ≡ loaded
  pub documents_is : store.gone ≡ documents absent
  pub contents_is : gone ≡ map (λ key. key.address) (contents absent)

-- ---- what is fetched, and what failed

pub record Fetches (flying : List Flight) (attempts squeezed : List Key) (flights : List Flight)
    (tried full : List Key) : Type 0 where
  pub flying_is : flights ≡ flying
  pub attempts_is : tried ≡ attempts
  pub squeezed_is : full ≡ squeezed

-- ---- what is wanted and kept

-- where they are marked as noted, the notes are those of the latest views
abbrev pub AreNoted : State → Bool → List Noted → Type 0
AreNoted s noted notes = noted ≡ true
    → AreNotesOfEach notes (map (λ seen. seen.view) s.views) (holdings s) (tree s)

-- where it is marked as filled, the queue has all that the latest views want, and hides what may not
-- be taken
pub record Queues (s : State) (filled : Bool) (queue : Queue) : Type 0 where
  pub order_is : queue.order ≡ s.order
  pub wants_are : filled ≡ true → queue.wants ≡ map (queued s) (want s)

-- ---- all of it

pub record Mirrors (s : State) (p : Parts) : Type 0 where
  pub closed : p.closed ≡ s.closed
  pub looks : p.looks ≡ s.looks
  pub views : p.views.items ≡ s.views
  pub shows : Shows s.frames s.residents s.budget p.frames.items p.cache
  pub knows : Knows s.root s.loaded s.absent p.arena.store p.absent.keys
  pub fetches : Fetches s.flying s.attempts s.squeezed p.flying.items p.attempts.items
      p.squeezed.items
  pub noted : AreNoted s p.noted p.notes.items
  pub queues : Queues s p.filled p.queue

-- ---- room

-- room for so many entries more, and for what must not be refused: an end of each of so many flights,
-- the return of each frame, and the closing
pub record HasRoom (more flights : ℕ) (p : Parts) : Type 0 where
  pub entries : more + flights + length p.frames.items + (if p.closed then 0 else 1)
      ≤ p.entries.spare
  pub attempts : flights ≤ p.attempts.spare
  pub squeezed : flights ≤ p.squeezed.spare
  pub absent : flights ≤ spare p.absent
  pub store : flights ≤ p.arena.store.spare

-- what views keep is known, or nothing has to go for so many bytes
abbrev pub KnowsRoom : ℕ → Parts → Type 0
KnowsRoom size p =
    (p.noted ≡ true) ⊎ (bytes_in p.cache.residents + size ≤ p.cache.budget)

-- ---- between two calls

-- the state that the journal leaves
abbrev pub state_of : Parts → State
state_of p = replay p.entries.items

-- what holds of a core between two calls
pub record Lives (p : Parts) : Type 0 where
  pub is_legal : legal p.entries.items ≡ true
  pub is_opened : (state_of p).opened ≡ true
  pub mirrors : Mirrors (state_of p) p
  pub room : HasRoom 0 (length p.flying.items) p
  pub few_looks : p.looks ≤ length p.entries.items

-- a call that adds no entry
pub record SameJournal (old new : Parts) : Type 0 where
  pub entries : new.entries.items ≡ old.entries.items
  pub room : new.room ≡ old.room
