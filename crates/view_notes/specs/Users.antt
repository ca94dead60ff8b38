-- Which nodes name a content, and how their notes change with it.
use Rattle.std.specs.Prelude.{All, ℕ, zero, suc, ◌≡◌, ◌+◌, ◌-◌, ◌<◌, Bool, true, false, not, ◌&&◌, ◌==◌, nat_lt, bytes_eq, if◌then◌else◌, List, [], ◌∷◌, length, slice_get}
use Rattle.std.specs.List.{list_any}
use Rattle.std.specs.Option.{option_map_or}
use Rattle.cut_core.specs.Cut.{Holdings}
use Rattle.view_notes.specs.declared.change.Change.{Change}
use Rattle.view_notes.specs.declared.change.Change.TheVariants.{Resident, Absent, Gone}
use Rattle.view_notes.specs.declared.note.Note.{Note}
use Rattle.view_notes.specs.Agreement.{Agree, SameFixed}
use Rattle.view_notes.specs.Changes.{BecomesAbsent, BecomesResident, Goes}
use Rattle.view_notes.specs.Notes.{is_kept}

-- ---- who names a content

abbrev pub times_in : List ℕ → ℕ → ℕ
times_in [] i = 0
times_in (u ∷ us) i = (if u == i then 1 else 0) + times_in us i

abbrev pub is_among : List ℕ → ℕ → Bool
is_among users i = list_any (λ u. u == i) users

abbrev pub times_of : List ℕ → List (List ℕ) → ℕ
times_of address [] = 0
times_of address (x ∷ xs) = (if bytes_eq address x then 1 else 0) + times_of address xs

-- the number of each node stands there as often as the content among the addresses that the node
-- names; the first node has this number
abbrev pub AreUsers : List ℕ → List ℕ → ℕ → List (List (List ℕ)) → Type 0
AreUsers address users at [] = Unit {0}
AreUsers address users at (xs ∷ names) =
    (times_in users at ≡ times_of address xs) × AreUsers address users (at + 1) names

-- the numbers are those of notes
abbrev pub AreWithin : List ℕ → List Note → Type 0
AreWithin users ns = All (λ u. u < length ns) users

-- ---- what changes

-- of one content of a node; only a content that is missing becomes resident or absent
abbrev pub changed_note : Change → Note → Note
changed_note Resident n =
    record n { resident = if nat_lt n.resident n.own then n.resident + 1 else n.resident }
changed_note Absent n = record n { own = if nat_lt n.resident n.own then n.own - 1 else n.own }
changed_note Gone n = record n { resident = n.resident - 1 }

abbrev pub changed_times : Change → ℕ → Note → Note
changed_times change zero n = n
changed_times change (suc times) n = changed_note change (changed_times change times n)

-- of each node as often as its number stands there; the first has this number
abbrev pub changed_notes : Change → List ℕ → ℕ → List Note → List Note
changed_notes change users at [] = []
changed_notes change users at (n ∷ ns) =
    changed_times change (times_in users at) n ∷ changed_notes change users (at + 1) ns

-- the notes have changed so, and agree with one another
pub record FollowsChange (change : Change) (users : List ℕ) (old new : List Note) : Type 0 where
  pub agree : Agree new
  pub changed : SameFixed (changed_notes change users 0 old) new

-- it has happened to the content at this address
abbrev pub Happens : Change → List ℕ → Holdings → Holdings → Type 0
Happens Resident address old new = BecomesResident address old new
Happens Absent address old new = BecomesAbsent address old new
Happens Gone address old new = Goes address old new

-- it only adds to what is resident or absent
abbrev pub adds_to : Change → Bool
adds_to Resident = true
adds_to Absent = true
adds_to Gone = false

-- ---- what is kept

-- the node of this number keeps its own contents
abbrev pub keeps_at : List Note → ℕ → Bool
keeps_at ns i = option_map_or is_kept (slice_get ns i) false

-- no node that isn't kept any more is among these; the first has this number
abbrev pub no_lacking_leaves : (ℕ → Bool) → ℕ → List Note → List Note → Bool
no_lacking_leaves lacking at [] new = true
no_lacking_leaves lacking at (n ∷ ns) [] = true
no_lacking_leaves lacking at (n ∷ ns) (m ∷ ms) =
    not (is_kept n && (not (is_kept m) && lacking at)) && no_lacking_leaves lacking (at + 1) ns ms

-- these numbers are those of the nodes that name one of these contents
abbrev pub AreLacking : (ℕ → Bool) → (List ℕ → Bool) → ℕ → List (List (List ℕ)) → Type 0
AreLacking lacking contents at [] = Unit {0}
AreLacking lacking contents at (xs ∷ names) =
    (lacking at ≡ list_any contents xs) × AreLacking lacking contents (at + 1) names
