-- What a seat is told by each kind of step, and what the functions that take the steps know of
-- their seat.
-- A step is told as a fact of the step st, the seat before it m, the word that it found, and the
-- seat after it m'. A seat is its view with the slots that it holds.
use Rattle.std.specs.Prelude.{◌≡◌, ◌≢◌, ℕ, ◌^◌, ◌<◌, ◌≤◌, false, List, [], ◌∷◌, ◌++◌, length}
use Rattle.std.specs.Prelude.{Option, Some, None}
use mathlib.Core.List.{IsPrefix}
use Rattle.atomic_table.specs.Table.{Me, Step}
use Rattle.atomic_table.specs.Seated.{TableId}
use Rattle.turn_rule.specs.declared.view.View.{View}
use Rattle.turn_rule.specs.Journal.{list_of, entries_of, named_count, IsBy}
use Rattle.turn_rule.specs.Seats.{Each, times, entry_count, accounts}
use Rattle.turn_rule.specs.Seats.{holder_view, grown_view, missed_view, rested_view}
use Rattle.turn_rule.specs.Seats.{drawn_view, numbered_view}
use Rattle.turn_rule.specs.Rule.{Facts}

-- the seat's table has three words and one slot, as that of a turn
pub record IsTurnSeat (seat table : TableId) : Type 0 where
  pub same : seat ≡ table
  pub three_words : table.words ≡ 3
  pub one_slot : table.slots ≡ 1

-- a seat of a turn: its view, and slot 0 with the state while it holds it
abbrev pub TurnMe : Type 0 → Type 0 → Type 0 → Type 0
TurnMe H E B = Me (Option H) (View E B)

-- what a step tells its seat
abbrev pub StepFact : Type 0 → Type 0 → Type 0 → Type 1
StepFact H E B = Step (Option H) → TurnMe H E B → ℕ → TurnMe H E B → Type 0

module _ {H E B : Type 0} (facts : H → Facts E B) (names : E → Option ℕ)
    (lawful : Option B → List E → Type 0) (sound : H → Type 0) where
  -- what the seat with the view v, which won the turn, learns of the state h that it takes
  pub record Learns (v : View E B) (h : H) : Type 0 where
    pub begins : IsPrefix v.seen (facts h).log
    pub library : (facts h).library ≡ v.library
    pub room : (facts h).room ≡ v.room
    pub total : (facts h).total ≡ named_count names (facts h).log
    pub is_lawful : lawful v.library (facts h).log
    pub is_sound : sound h
    pub told : Each (λ a. a.1 ≡ entries_of names a.0 (facts h).log) (accounts v)
    pub once : (n : ℕ) → times n (accounts v) ≤ 1

  -- Kind 1: word 0 from 0 to 1. The turn was free, and the seat holds it and slot 0. Or it was
  -- taken, and the seat counts a miss.
  abbrev pub Takes : StepFact H E B
  Takes st m found m' =
      (found ≡ 0 → (h : H)
      × (m' ≡ (holder_view m.0 (facts h).log, (0, Some h) ∷ m.1)) × Learns m.0 h)
      × (found ≢ 0 → m' ≡ (missed_view m.0, m.1))

-- Kinds 2 and 4, the exchanges of slot 0, are no steps of a word: the table itself tells what they
-- do.
module _ {H E B : Type 0} where
  -- Kind 3: word 1 up by 1. The journal and the holder's own entries are now these.
  abbrev pub Adds : List E → List E → StepFact H E B
  Adds log own st m found m' = m' ≡ (grown_view m.0 log own, m.1)

  -- Kind 5: word 0 back to 0. The holder has seen what it held, and holds neither turn nor slot.
  abbrev pub Leaves : StepFact H E B
  Leaves st m found m' = (held : List E) → m.0.held ≡ Some held → m' ≡ (rested_view m.0 held, [])

  -- Kind 6: word 1 is read. It is at least as long as what the seat has seen.
  abbrev pub ReadsLength : StepFact H E B
  ReadsLength st m found m' = (m' ≡ m) × (length m.0.seen ≤ found)

  -- Kind 6: word 2 is read. It is at most 2 ^ 32, no lower than what the seat drew before, and
  -- above the seat's number.
  abbrev pub ReadsNext : StepFact H E B
  ReadsNext st m found m' =
      (m' ≡ (drawn_view m.0 found, m.1)) × (found ≤ 2 ^ 32) × (m.0.drawn ≤ found)
      × ((n : ℕ) → m.0.number ≡ Some n → n < found)

  -- Kind 8: word 2 from n to n + 1. The number n is the seat's, or another seat came first and
  -- nothing changed.
  abbrev pub TakesNumber : StepFact H E B
  TakesNumber st m found m' =
      (found ≡ st.first → m' ≡ (numbered_view m.0 st.first, m.1))
      × (found ≢ st.first → m' ≡ m)

  -- What a pass keeps of its seat between calls: it holds nothing, has the pass's number, and its
  -- share's amount is the number of entries that it answers for.
  pub record IsAtRest (me : TurnMe H E B) (number parts amount : ℕ) : Type 0 where
    pub empty : me.1 ≡ []
    pub idle : me.0.held ≡ None
    pub here : me.0.spent ≡ false
    pub has_number : me.0.number ≡ Some number
    pub has_parts : 0 < parts
    pub has_amount : amount ≡ entry_count (accounts me.0)

module _ {E B : Type 0} (names : E → Option ℕ) (lawful : Option B → List E → Type 0) where
  -- what is known of the holder's view and of the book once an act ran: the state's journal was
  -- `before` long and is now `journal`
  pub record Acted (v : View E B) (number before total : ℕ) (journal : List E) : Type 0 where
    pub log : List E
    pub entry : Option E
    pub held : v.held ≡ Some log
    pub length_before : before ≡ length log
    pub grown : journal ≡ log ++ list_of entry
    pub by : IsBy names number entry
    pub here : v.spent ≡ false
    pub mine : v.own ≡ entries_of names number log
    pub has_number : v.number ≡ Some number
    pub is_lawful : lawful v.library journal
    pub counted : total ≡ named_count names log

  -- the same of an act that added an entry: the journal is now `log_after`, and the pass's own
  -- entries are `own_after`
  pub record AddedOne (v : View E B) (number : ℕ) (log_after own_after : List E) : Type 0 where
    pub log : List E
    pub entry : E
    pub held : v.held ≡ Some log
    pub grown : log_after ≡ log ++ entry ∷ []
    pub has_own : own_after ≡ entries_of names number log_after
    pub by : names entry ≡ Some number
    pub here : v.spent ≡ false
    pub has_number : v.number ≡ Some number
    pub is_lawful : lawful v.library log_after
