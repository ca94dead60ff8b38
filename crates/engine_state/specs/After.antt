-- What an entry changes: a row for each. What a row doesn't name stays.
use Rattle.std.specs.Prelude.{ℕ, ◌==◌, Bool, true, if◌then◌else◌, List, [], ◌∷◌, ◌++◌}
use Rattle.tile_types.specs.declared.key.Key.{Key}
use Rattle.doc_store.specs.Docs.{tileset_key}
use Rattle.cut_core.specs.Visits.{content_key}
use Rattle.engine_state.specs.declared.entry.Entry.{Entry}
use Rattle.engine_state.specs.declared.entry.Entry.TheVariants.{Opened, Looked, LookRefused, Returned, Taken, DocumentArrived, ContentArrived, Squeezed, Absent, Failed, Starved, Retried, Closed}
use Rattle.engine_state.specs.declared.fault_count.FaultCount.{FaultCount}
use Rattle.engine_state.specs.State.{State}
use Rattle.engine_state.specs.Views.{with_view}
use Rattle.engine_state.specs.Frames.{addresses_of, frame_lines}
use Rattle.engine_state.specs.Loading.{is_flight_of}
use Rattle.engine_state.specs.Room.{all_moved_up, without}

-- the list without the first that passes the test
abbrev pub without_first : {A : Type 0} → (A → Bool) → List A → List A
without_first test [] = []
without_first test (x ∷ xs) = if test x then xs else x ∷ without_first test xs

-- the key isn't being fetched by the pass any more
abbrev pub fetch_ended : State → ℕ → Key → State
fetch_ended s pass key = record s { flying = without_first (is_flight_of pass key) s.flying }

abbrev pub with_count : ℕ → ℕ → List FaultCount → List FaultCount
with_count pass count [] = record { pass = pass; count = count } ∷ []
with_count pass count (f ∷ fs) =
    if f.pass == pass then record { pass = pass; count = count } ∷ fs
    else f ∷ with_count pass count fs

abbrev pub after : State → Entry → State
after s (Opened root bytes budget order) = record s {
  opened = true;
  root = root;
  budget = budget;
  order = order;
  loaded = record { key = tileset_key root; bytes = bytes } ∷ [];
}
after s (Looked pass id viewer view settled) = record s {
  frames = s.frames ++ record { id = id; viewer = viewer; lines = frame_lines s view } ∷ [];
  looks = id;
  views = with_view viewer view s.views;
  residents = all_moved_up (addresses_of (frame_lines s view)) s.residents;
  squeezed = [];
}
after s (LookRefused pass viewer view settled why) = record s {
  views = with_view viewer view s.views;
  squeezed = [];
}
after s (Returned pass id) = record s {
  frames = without_first (λ frame. frame.id == id) s.frames;
  squeezed = [];
}
after s (Taken pass key) = record s {
  flying = s.flying ++ record { key = key; pass = pass } ∷ [];
}
after s (DocumentArrived pass key bytes) = record (fetch_ended s pass key) {
  loaded = s.loaded ++ record { key = key; bytes = bytes } ∷ [];
}
after s (ContentArrived pass address size digest out) =
    record (fetch_ended s pass (content_key address)) {
      residents = record { address = address; facts = record { length = size; digest = digest } }
          ∷ without out s.residents;
    }
after s (Squeezed pass address size) = record (fetch_ended s pass (content_key address)) {
  squeezed = s.squeezed ++ content_key address ∷ [];
}
after s (Absent pass key why) = record (fetch_ended s pass key) {
  absent = s.absent ++ key ∷ [];
}
after s (Failed pass key count) = record (fetch_ended s pass key) {
  attempts = s.attempts ++ key ∷ [];
  faults = with_count pass count s.faults;
}
after s (Starved pass key) = record (fetch_ended s pass key) {
  attempts = s.attempts ++ key ∷ [];
}
after s (Retried pass) = record s { attempts = []; squeezed = [] }
after s (Closed pass) = record s { closed = true }
