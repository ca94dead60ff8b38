-- Words of journals. A journal is a list of entries, and an entry may name the pass that made it.
use Rattle.std.specs.Prelude.{◌≡◌, ℕ, Bool, false, List, [], ◌∷◌, length, Option, Some, None}
use Rattle.std.specs.Prelude.{is_some, nat_eq, nat_lt, filter, Contains, if◌then◌else◌}

module _ {E : Type 0} where
  -- no entry, or one
  abbrev pub list_of : Option E → List E
  list_of None = []
  list_of (Some e) = e ∷ []

  -- the longer of two lists, the first where they have one length
  abbrev pub longer : List E → List E → List E
  longer a b = if nat_lt (length a) (length b) then b else a

-- whether the name is the number n
abbrev pub is_number : ℕ → Option ℕ → Bool
is_number n None = false
is_number n (Some m) = nat_eq m n

module _ {E : Type 0} (names : E → Option ℕ) where
  -- the entries that name the pass n, in the journal's order
  abbrev pub entries_of : ℕ → List E → List E
  entries_of n log = filter (λ e. is_number n (names e)) log

  -- how many entries name a pass
  abbrev pub named_count : List E → ℕ
  named_count log = length (filter (λ e. is_some (names e)) log)

  -- the entry, if there is one, names the pass n
  abbrev pub IsBy : ℕ → Option E → Type 0
  IsBy n entry = (e : E) → entry ≡ Some e → names e ≡ Some n

  -- no entry names a pass
  abbrev pub NamesNoPass : List E → Type 0
  NamesNoPass log = (e : E) → Contains log e → names e ≡ None

-- the journal is legal, and agrees with the library where that is told
pub record IsLawful {E B : Type 0} (legal : List E → Type 0) (agrees : B → List E → Type 0)
    (library : Option B) (log : List E) : Type 0 where
  pub is_legal : legal log
  pub is_agreed : (b : B) → library ≡ Some b → agrees b log
