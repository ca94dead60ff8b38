-- What loads bring about.
use Rattle.std.specs.Prelude.{ℕ, ◌≡◌, ◌==◌, Bool, false, IsTrue, if◌then◌else◌, List, [], ◌∷◌, ◌++◌}
use Rattle.std.specs.List.{flat_map, list_all}
use Rattle.engine_state.specs.declared.entry.Entry.{Entry}
use Rattle.engine_state.specs.declared.entry.Entry.TheVariants.{Opened, Looked, LookRefused, Returned, Taken, DocumentArrived, ContentArrived, Squeezed, Absent, Failed, Starved, Retried, Closed}

-- the entry is of a load: a key is taken, or something comes of it
abbrev pub is_of_loads : Entry → Bool
is_of_loads (Taken pass key) = pass == 0
is_of_loads (DocumentArrived pass key bytes) = pass == 0
is_of_loads (ContentArrived pass address size digest out) = pass == 0
is_of_loads (Squeezed pass address size) = pass == 0
is_of_loads (Absent pass key why) = pass == 0
is_of_loads (Failed pass key count) = pass == 0
is_of_loads (Starved pass key) = pass == 0
is_of_loads (Opened root bytes budget order) = false
is_of_loads (Looked pass id viewer view settled) = false
is_of_loads (LookRefused pass viewer view settled why) = false
is_of_loads (Returned pass id) = false
is_of_loads (Retried pass) = false
is_of_loads (Closed pass) = false

-- the journal goes on with loads alone, those of pass 0
pub record Loads (old new : List Entry) : Type 0 where
  pub loads : List Entry
  pub are_loads : IsTrue (list_all is_of_loads loads)
  pub added : new ≡ old ++ loads

-- ---- faults

-- the count of faults that an entry of pass 0 tells
abbrev pub count_in : Entry → List ℕ
count_in (Failed pass key count) = if pass == 0 then count ∷ [] else []
count_in (Opened root bytes budget order) = []
count_in (Looked pass id viewer view settled) = []
count_in (LookRefused pass viewer view settled why) = []
count_in (Returned pass id) = []
count_in (Taken pass key) = []
count_in (DocumentArrived pass key bytes) = []
count_in (ContentArrived pass address size digest out) = []
count_in (Squeezed pass address size) = []
count_in (Absent pass key why) = []
count_in (Starved pass key) = []
count_in (Retried pass) = []
count_in (Closed pass) = []

-- those of a journal, in order
abbrev pub counts_in : List Entry → List ℕ
counts_in entries = flat_map count_in entries
