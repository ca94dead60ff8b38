use Rattle.std.proofs.Common.{drop}
use Rattle.view_notes.specs.Agreement.{ArePlaced, AreReadBut, SameFixed}
use Rattle.view_notes.specs.Rising.{Falls, ReadyAreRight}
use Rattle.view_notes.specs.Users.{is_among}
use Rattle.view_notes.proofs.following.settle_users.Given as goal

-- the users from this one on are in doubt
abbrev pub invariant-loop-user : goal.invariant-loop-user
invariant-loop-user g l = record {
  placed : ArePlaced 0 l.notes;
  same_fixed : SameFixed l.fn.notes l.notes;
  read : AreReadBut (is_among l.users) 0 l.fn.notes
      → AreReadBut (is_among (drop l.user-index l.users)) 0 l.notes;
  right : ReadyAreRight l.fn.notes → ReadyAreRight l.notes;
  falls : ReadyAreRight l.fn.notes
      → Falls (g.L.Lacking.lacking l.lacking) l.none_leaves l.fn.notes l.notes;
}
