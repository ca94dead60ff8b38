-- What notes tell of what is wanted.
use Rattle.std.specs.Prelude.{ℕ, ◌≡◌, ◌+◌, Bool, true, false, ◌&&◌, fold, List, [], ◌∷◌, Option, Some, length, nat_lt, take}
use Rattle.std.specs.List.{flat_map, slice_get}
use Rattle.tile_types.specs.declared.key.Key.{Key}
use Rattle.tile_types.specs.declared.want.Want.{Want}
use Rattle.error_test.specs.Views.{ViewParts}
use Rattle.expanded_tree.specs.Tree.{Tree, key_of}
use Rattle.cut_core.specs.Cut.{Holdings}
use Rattle.cut_core.specs.Distances.{Measured, measured_visits}
use Rattle.cut_core.specs.Visits.{keeps_own, unless_too_many}
use Rattle.cut_core.specs.Wants.{key_list, wanted, wants_of, with_want}
use Rattle.view_notes.specs.declared.note.Note.{Note}
use Rattle.view_notes.specs.declared.note.Role.{Role}
use Rattle.view_notes.specs.declared.note.Role.TheVariants.{Pending, Leaf, Adding, Replacing}
use Rattle.view_notes.specs.Follows.{AreNotesOf, Noted}
use Rattle.view_notes.specs.Notes.{is_kept}
use Rattle.view_notes.specs.Views.{wanted_by, wishes}

-- the wants are those of the view whose notes these are
abbrev pub TellsWanted : Holdings → Noted → List Want → Type 0
TellsWanted holdings n wants =
    (view : ViewParts) (root : Option Tree) → AreNotesOf n view holdings root
    → wants ≡ wanted view holdings root

-- the wishes of the view whose notes these are have joined the wants
abbrev pub AddsWishes : Holdings → Noted → List Want → List Want → Type 0
AddsWishes holdings n old new =
    (view : ViewParts) (root : Option Tree) → AreNotesOf n view holdings root
    → new ≡ fold with_want old (wishes view holdings root)

-- these are the notes of each of the views
abbrev pub AreNotesOfEach : List Noted → List ViewParts → Holdings → Option Tree → Type 0
AreNotesOfEach [] [] holdings root = Unit {0}
AreNotesOfEach [] (view ∷ views) holdings root = ⊥
AreNotesOfEach (n ∷ ns) [] holdings root = ⊥
AreNotesOfEach (n ∷ ns) (view ∷ views) holdings root =
    AreNotesOf n view holdings root × AreNotesOfEach ns views holdings root

-- the wants are those of the views whose notes these are, each key once
abbrev pub TellsWantedBy : Holdings → List Noted → List Want → Type 0
TellsWantedBy holdings ns wants =
    (views : List ViewParts) (root : Option Tree) → AreNotesOfEach ns views holdings root
    → wants ≡ wanted_by views holdings root

-- the noted nodes, with their distances
abbrev pub noted_at : ViewParts → Option Tree → List Measured
noted_at view root = unless_too_many view root (measured_visits view root)

abbrev pub keys_at : List Measured → List Key
keys_at ms = flat_map (λ m. key_list (key_of m.tree)) ms

-- the noted node of this number, where so many nodes before it wait for a key
pub record IsNodeAt (n : Noted) (view : ViewParts) (holdings : Holdings) (root : Option Tree)
    (number waiting : ℕ) (m : Measured) : Type 0 where
  pub notes : AreNotesOf n view holdings root
  pub here : slice_get (noted_at view root) number ≡ Some m
  pub before : waiting ≡ length (keys_at (take number (noted_at view root)))

-- what the node of this number wants has joined the wants, whatever view and tree these are the notes
-- of
abbrev pub AddsWantsOf : Noted → Holdings → ℕ → ℕ → List Want → List Want → Type 0
AddsWantsOf n holdings number waiting old new =
    (view : ViewParts) (root : Option Tree) (m : Measured)
    → IsNodeAt n view holdings root number waiting m
    → new ≡ fold with_want old (wants_of holdings (keeps_own view holdings m.tree) m)

-- so many nodes up to the one of this number wait for a key
abbrev pub CountsWaiting : Noted → Holdings → ℕ → ℕ → ℕ → Type 0
CountsWaiting n holdings number waiting answer =
    (view : ViewParts) (root : Option Tree) (m : Measured)
    → IsNodeAt n view holdings root number waiting m
    → answer ≡ waiting + length (key_list (key_of m.tree))

-- ---- what a note tells

abbrev pub waits_by : Role → Bool
waits_by Pending = true
waits_by Leaf = false
waits_by Adding = false
waits_by Replacing = false

-- the node waits for a document
abbrev pub waits : Note → Bool
waits n = waits_by n.role

-- the node keeps its own contents, and one of them is missing
abbrev pub lacks_some : Note → Bool
lacks_some n = is_kept n && nat_lt n.resident n.own
