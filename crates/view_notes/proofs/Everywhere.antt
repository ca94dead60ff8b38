-- Readiness is brought up to date at one node behind another.
use Rattle.std.proofs.Common.{ℕ, ◌+◌, ◌≤◌, ◌||◌, false, List, [], ◌∷◌, length, arith}
use Rattle.std.specs.Prelude.{◌==◌, nat_le}
use Rattle.std.proofs.lemmas.Bool.{eqb-false, leb-false, lt-leb}
use Rattle.view_notes.specs.declared.note.Note.{Note}
use Rattle.view_notes.specs.Agreement.{AreReadBut}
use Rattle.view_notes.proofs.Turning.{or_left, or_right, read_less}

-- no note is known to be right
pub all_in_doubt : (at : ℕ) (ns : List Note) → AreReadBut (λ i. nat_le 0 i) at ns
all_in_doubt at [] = tt
all_in_doubt at (n ∷ ns) = ((λ q. absurd (omega (arith, leb-false 0 at q))), all_in_doubt (at + 1) ns)

-- of those from this one on, this one is taken out
pub one_in_doubt : (k : ℕ) (ns : List Note) → AreReadBut (λ i. nat_le k i) 0 ns
    → AreReadBut (λ i. (k == i) || nat_le (k + 1) i) 0 ns
one_in_doubt k ns h =
    read_less (λ i. nat_le k i) (λ i. (k == i) || nat_le (k + 1) i) 0 ns
    (λ i le q.
    let other = eqb-false k i (or_left (k == i) (nat_le (k + 1) i) q) in
    let few = leb-false (k + 1) i (or_right (k == i) (nat_le (k + 1) i) q) in
    lt-leb k i (omega (arith, few, other)))
    h

-- none is left
pub none_in_doubt : (k at : ℕ) (ns : List Note) → at + length ns ≤ k
    → AreReadBut (λ i. nat_le k i) at ns → AreReadBut (λ i. false) at ns
none_in_doubt k at [] le h = tt
none_in_doubt k at (n ∷ ns) le h = (
  (λ q. h.0 (lt-leb k at (omega (arith, le)))),
  none_in_doubt k (at + 1) ns (omega (arith, le)) h.1,
)
