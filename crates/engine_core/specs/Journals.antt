-- Whether a journal goes on.
use Rattle.std.specs.Prelude.{ℕ, ◌≡◌, ◌≤◌, ◌<◌, false, List, length}
use Rattle.engine_state.specs.declared.entry.Entry.{Entry}
use Rattle.engine_state.specs.Journal.{fullness, replay}

-- the engine isn't closed, and its journal has room
pub record MayGoOn (journal : List Entry) (room : ℕ) : Type 0 where
  pub is_open : (replay journal).closed ≡ false
  pub has_room : fullness journal ≤ room

-- the engine isn't closed, its journal has no room, and this many entries
pub record IsFull (journal : List Entry) (room entries : ℕ) : Type 0 where
  pub is_open : (replay journal).closed ≡ false
  pub has_none : room < fullness journal
  pub entries_are : entries ≡ length journal
