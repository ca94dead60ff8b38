use Rattle.std.specs.Prelude.{nat_le}
use Rattle.view_notes.specs.Agreement.{ArePlaced, AreReadBut, SameFixed}
use Rattle.view_notes.proofs.settle_all.settle_all.Given as goal

-- the nodes from this one on are in doubt
abbrev pub invariant-loop-number : goal.invariant-loop-number
invariant-loop-number l = record {
  placed : ArePlaced 0 l.notes;
  same_fixed : SameFixed l.fn.notes l.notes;
  read : AreReadBut (λ i. nat_le l.number i) 0 l.notes;
}
