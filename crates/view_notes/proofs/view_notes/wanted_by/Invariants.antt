use Rattle.cut_core.specs.WantMap.{wants_in}
use Rattle.view_notes.proofs.Asking.{AsksViewsUpTo}
use Rattle.view_notes.proofs.view_notes.wanted_by.Given as goal

-- the wants of the views before this one were added
abbrev pub invariant-loop-notes : goal.invariant-loop-notes
invariant-loop-notes g l =
    AsksViewsUpTo l.views (g.H.Holdings.holdings l.holdings) l.notes-index (wants_in l.wants)
