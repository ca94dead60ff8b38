-- Notes that agree with one another.
use Rattle.std.specs.Prelude.{ℕ, ◌≡◌, ◌+◌, ◌<◌, ◌≤◌, Bool, false, not, ◌&&◌, ◌==◌, if◌then◌else◌, Option, Some, None, List, [], ◌∷◌, length, map}
use Rattle.cut_core.specs.declared.findings.TheConstants.{VISITED_LIMIT}
use Rattle.view_notes.specs.declared.note.Note.{Note}
use Rattle.view_notes.specs.Notes.{ready_of}

abbrev pub is_at : ℕ → Option ℕ → Bool
is_at i None = false
is_at i (Some p) = p == i

-- 1 where the note is of an unready child of the i-th
abbrev pub unready_one : ℕ → Note → ℕ
unready_one i n = if is_at i n.parent && not n.ready then 1 else 0

abbrev pub unready_among : ℕ → List Note → ℕ
unready_among i [] = 0
unready_among i (n ∷ ns) = unready_one i n + unready_among i ns

abbrev pub IsBefore : Option ℕ → ℕ → Type 0
IsBefore None at = Unit {0}
IsBefore (Some p) at = p < at

-- each node stands behind its parent, and its unready children, which stand behind it, are counted;
-- the first note has this number
abbrev pub ArePlaced : ℕ → List Note → Type 0
ArePlaced at [] = Unit {0}
ArePlaced at (n ∷ ns) =
    IsBefore n.parent at × (n.unready ≡ unready_among at ns) × ArePlaced (at + 1) ns

-- each note but those in doubt says whether its node is ready
abbrev pub AreReadBut : (ℕ → Bool) → ℕ → List Note → Type 0
AreReadBut doubt at [] = Unit {0}
AreReadBut doubt at (n ∷ ns) =
    (doubt at ≡ false → n.ready ≡ ready_of n) × AreReadBut doubt (at + 1) ns

pub record Agree (ns : List Note) : Type 0 where
  pub few : length ns ≤ VISITED_LIMIT
  pub placed : ArePlaced 0 ns
  pub read : AreReadBut (λ i. false) 0 ns

-- what a note says beside readiness
abbrev pub fixed : Note → Note
fixed n = record n { unready = 0; ready = false }

abbrev pub SameFixed : List Note → List Note → Type 0
SameFixed old new = map fixed new ≡ map fixed old
