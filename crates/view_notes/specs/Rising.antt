-- How readiness goes up from a node to the nodes above it.
use Rattle.std.specs.Prelude.{ℕ, ◌≡◌, ◌+◌, ◌-◌, Bool, true, ◌&&◌, if◌then◌else◌, List, [], ◌∷◌}
use Rattle.view_notes.specs.declared.note.Note.{Note}
use Rattle.view_notes.specs.Notes.{is_kept, ready_of}
use Rattle.view_notes.specs.Users.{no_lacking_leaves}

abbrev pub with_ready : Bool → Note → Note
with_ready ready n = record n { ready = ready }

-- one child more is ready, or one less
abbrev pub with_child : Bool → Note → Note
with_child ready n = record n { unready = if ready then n.unready - 1 else n.unready + 1 }

-- each note that says that its node is ready is right
abbrev pub ReadyAreRight : List Note → Type 0
ReadyAreRight [] = Unit {0}
ReadyAreRight (n ∷ ns) = (n.ready ≡ true → ready_of n ≡ true) × ReadyAreRight ns

-- each node that keeps its own contents did so at the start
abbrev pub KeptFrom : List Note → List Note → Type 0
KeptFrom [] [] = Unit {0}
KeptFrom [] (n ∷ ns) = ⊥
KeptFrom (s ∷ ss) [] = ⊥
KeptFrom (s ∷ ss) (n ∷ ns) = (is_kept n ≡ true → is_kept s ≡ true) × KeptFrom ss ns

-- on the way from old to new nodes only cease to keep their own contents, and the answer is whether
-- none of these did
pub record Falls (lacking : ℕ → Bool) (answer : Bool) (old new : List Note) : Type 0 where
  pub kept : (start : List Note) → KeptFrom start old → KeptFrom start new
  pub leaves : (start : List Note) → KeptFrom start old → no_lacking_leaves lacking 0 start new
      ≡ (no_lacking_leaves lacking 0 start old && answer)
