-- Journals: the state that a journal leaves, and which journals are legal.
use Rattle.std.specs.Prelude.{ℕ, ◌+◌, Bool, true, ◌&&◌, if◌then◌else◌, Option, Some, None, List, [], ◌∷◌, length}
use Rattle.engine_state.specs.declared.entry.Entry.{Entry}
use Rattle.engine_state.specs.declared.limits.TheConstants.{JOURNAL_MARGIN}
use Rattle.engine_state.specs.State.{State, unopened}
use Rattle.engine_state.specs.Allowed.{allowed}
use Rattle.engine_state.specs.After.{after}

abbrev pub after_all : State → List Entry → State
after_all s [] = s
after_all s (e ∷ es) = after_all (after s e) es

abbrev pub all_allowed : State → List Entry → Bool
all_allowed s [] = true
all_allowed s (e ∷ es) = allowed s e && all_allowed (after s e) es

-- the state after a journal
abbrev pub replay : List Entry → State
replay entries = after_all unopened entries

-- each entry is allowed in the state after those before it
abbrev pub legal : List Entry → Bool
legal entries = all_allowed unopened entries

-- ---- room for entries

-- the ends that are still to come: of what is being fetched, and of the frames that are held
abbrev pub ends_to_come : State → ℕ
ends_to_come s = length s.flying + length s.frames

-- a journal is full where this passes its room
abbrev pub fullness : List Entry → ℕ
fullness entries = length entries + ends_to_come (replay entries) + JOURNAL_MARGIN

-- ---- where a journal isn't legal

-- the number of the first entry that isn't allowed, where the first of these has this number
abbrev pub first_illegal_from : ℕ → State → List Entry → Option ℕ
first_illegal_from number s [] = None
first_illegal_from number s (e ∷ es) =
    if allowed s e then first_illegal_from (number + 1) (after s e) es else Some number

-- counted from 1
abbrev pub first_illegal : List Entry → Option ℕ
first_illegal entries = first_illegal_from 1 unopened entries
