use Rattle.std.proofs.Common.{ℕ, ◌<◌, Bool, ◌||◌, length}
use Rattle.std.specs.Prelude.{◌==◌}
use Rattle.view_notes.specs.Agreement.{ArePlaced, AreReadBut, SameFixed}
use Rattle.view_notes.specs.Rising.{Falls, ReadyAreRight}
use Rattle.view_notes.proofs.settle.settle.Given as goal

-- this note is in doubt in the place of the first
abbrev pub invariant-loop-note : goal.invariant-loop-note
invariant-loop-note g l = record {
  within : l.at < length l.notes;
  placed : ArePlaced 0 l.notes;
  same_fixed : SameFixed l.fn.notes l.notes;
  read : (doubt : ℕ → Bool) → AreReadBut (λ i. (l.first == i) || doubt i) 0 l.fn.notes
      → AreReadBut (λ i. (l.at == i) || doubt i) 0 l.notes;
  right : ReadyAreRight l.fn.notes → ReadyAreRight l.notes;
  falls : ReadyAreRight l.fn.notes
      → Falls (g.L.Lacking.lacking l.lacking) l.none_leaves l.fn.notes l.notes;
}

abbrev pub decreases-loop-note : goal.decreases-loop-note
decreases-loop-note g l = l.at
