-- The state of an engine: plain lists of what is at hand, what is shown, and what is on its way.
use Rattle.std.specs.Prelude.{ℕ, Bool, false, not, List, [], filter}
use Rattle.tile_types.specs.declared.key.Key.{Key}
use Rattle.tile_types.specs.declared.order.Order.{Order}
use Rattle.tile_types.specs.declared.order.Order.TheVariants.{Listed}
use Rattle.doc_store.specs.Docs.{Docs, Loaded, docs_of, is_content}
use Rattle.engine_state.specs.declared.fault_count.FaultCount.{FaultCount}
use Rattle.engine_state.specs.declared.flight.Flight.{Flight}
use Rattle.engine_state.specs.declared.held_frame.HeldFrame.{HeldFrame}
use Rattle.engine_state.specs.declared.resident.Resident.{Resident}
use Rattle.engine_state.specs.declared.seen.Seen.{Seen}

pub record State : Type 0 where
  -- whether it was opened, and with what
  pub opened : Bool
  pub root : List ℕ
  pub budget : ℕ
  pub order : Order
  -- the loaded documents in the order in which they came; the contents at hand, the most recently
  -- used first; and the keys of which nothing comes, documents' and contents'
  pub loaded : List Loaded
  pub residents : List Resident
  pub absent : List Key
  -- the frames that are held by rising number, how many frames there were so far, and the latest
  -- views by rising viewer
  pub frames : List HeldFrame
  pub looks : ℕ
  pub views : List Seen
  -- the keys that are being fetched; a key for each attempt that failed; the keys for whose contents
  -- there was no room; and the last fault count of each pass
  pub flying : List Flight
  pub attempts : List Key
  pub squeezed : List Key
  pub faults : List FaultCount
  pub closed : Bool

-- the state of an engine that isn't opened
abbrev pub unopened : State
unopened = record {
  opened = false;
  root = [];
  budget = 0;
  order = Listed;
  loaded = [];
  residents = [];
  absent = [];
  frames = [];
  looks = 0;
  views = [];
  flying = [];
  attempts = [];
  squeezed = [];
  faults = [];
  closed = false;
}

-- the keys of documents, and those of contents
abbrev pub documents : List Key → List Key
documents keys = filter (λ key. not (is_content key)) keys

abbrev pub contents : List Key → List Key
contents keys = filter is_content keys

-- the documents at hand: those that are loaded, and those that are absent
abbrev pub docs : State → Docs
docs s = docs_of s.loaded (documents s.absent)
