use Rattle.cut_core.specs.WantMap.{wants_in}
use Rattle.view_notes.proofs.Asking.{AsksUpTo}
use Rattle.view_notes.proofs.view_notes.ViewNotes.put_wants.Given as goal

-- the wants of the nodes before this one were added
abbrev pub invariant-loop-number : goal.invariant-loop-number
invariant-loop-number g l =
    AsksUpTo l.self (g.H.Holdings.holdings l.holdings) l.number l.waiting (wants_in l.fn.wants)
    (wants_in l.wants)
