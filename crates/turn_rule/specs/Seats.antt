-- Views of seats: what each seat of the table knows, and how a step changes it.
use Rattle.std.specs.Prelude.{◌≡◌, ◌⊎◌, ℕ, ◌+◌, ◌<◌, true, false, List, [], ◌∷◌, ◌++◌, length}
use Rattle.std.specs.Prelude.{Option, Some, None, Contains, nat_eq, if◌then◌else◌}
use Rattle.atomic_table.specs.Seated.{TableId}
use Rattle.turn_rule.specs.declared.view.View.{View}
use Rattle.turn_rule.specs.Journal.{longer, entries_of}
use Rattle.turn_rule.specs.Known.{Known}

module _ {A : Type 0} where
  -- f of each element, added up
  abbrev pub total : (A → ℕ) → List A → ℕ
  total f [] = 0
  total f (x ∷ xs) = f x + total f xs

  -- P of each element
  abbrev pub Each : (A → Type 0) → List A → Type 0
  Each P [] = Unit {0}
  Each P (x ∷ xs) = P x × Each P xs

-- An account is a pass number with the entries of that pass.
module _ {E : Type 0} where
  -- how often the number n stands in accounts
  abbrev pub times : ℕ → List (ℕ × List E) → ℕ
  times n accounts = total (λ a. if nat_eq a.0 n then 1 else 0) accounts

  -- how many entries the accounts have
  abbrev pub entry_count : List (ℕ × List E) → ℕ
  entry_count accounts = total (λ a. length a.1) accounts

  -- the account of a seat's own number, if it has one
  abbrev pub own_account : Option ℕ → List E → List (ℕ × List E)
  own_account None own = []
  own_account (Some n) own = (n, own) ∷ []

-- the account's number was given to a pass, and its list is the entries of the journal that name it
abbrev pub IsAccount : {E : Type 0} → (E → Option ℕ) → ℕ → List E → ℕ × List E → Type 0
IsAccount names next log a = (a.1 ≡ entries_of names a.0 log) × (a.0 < next)

module _ {E B : Type 0} where
  -- what a seat answers for: its own number, and those of the passes that were joined into it
  abbrev pub accounts : View E B → List (ℕ × List E)
  accounts v = own_account v.number v.own ++ v.ended

  -- the seat answers for the number n: it has it, or a pass that had it was joined into it
  abbrev pub AnswersForNumber : View E B → ℕ → Type 0
  AnswersForNumber v n = (v.number ≡ Some n) ⊎ ((l : List E) × Contains v.ended (n, l))

  -- a pass, as contracts see it, by its table, its view and its parts of the ledger
  abbrev pub known : TableId → View E B → ℕ → ℕ → Known E B
  known table v number parts = record {
    table = table;
    number = number;
    drawn = v.drawn;
    seen = v.seen;
    own = v.own;
    ended = v.ended;
    misses = v.misses;
    parts = parts;
    library = v.library;
    room = v.room;
  }

  -- a seat that has seen this journal and made nothing
  abbrev pub new_view : Option ℕ → List E → Option B → ℕ → View E B
  new_view number log library room = record {
    number = number;
    drawn = 0;
    seen = log;
    own = [];
    ended = [];
    held = None;
    misses = 0;
    spent = false;
    library = library;
    room = room;
  }

  -- a seat that was joined into another
  abbrev pub spent_view : View E B
  spent_view = record (new_view None [] None 0) { spent = true }

  -- the seat took the turn, at this journal
  abbrev pub holder_view : View E B → List E → View E B
  holder_view v log = record v { held = Some log }

  -- the holder added an entry: the journal and its own entries are now these
  abbrev pub grown_view : View E B → List E → List E → View E B
  grown_view v log own = record v { held = Some log; own = own }

  -- the seat found the turn taken
  abbrev pub missed_view : View E B → View E B
  missed_view v = record v { misses = v.misses + 1 }

  -- the holder gave the turn back, at this journal
  abbrev pub rested_view : View E B → List E → View E B
  rested_view v log = record v { seen = log; held = None }

  -- the seat found this next number
  abbrev pub drawn_view : View E B → ℕ → View E B
  drawn_view v n = record v { drawn = n }

  -- the new seat was given this number
  abbrev pub numbered_view : View E B → ℕ → View E B
  numbered_view v n = record v { number = Some n; own = [] }

  -- the seat v once w was joined into it
  abbrev pub joined_view : View E B → View E B → View E B
  joined_view v w = record v { seen = longer v.seen w.seen; ended = v.ended ++ accounts w }
