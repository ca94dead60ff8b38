use Rattle.view_notes.proofs.GoingEach.{GoesUpTo}
use Rattle.view_notes.proofs.all_views.all_go_each.Given as goal

-- the contents before this one have gone
abbrev pub invariant-loop-address : goal.invariant-loop-address
invariant-loop-address l = GoesUpTo l.addresses l.address-index l.fn.notes l.notes
