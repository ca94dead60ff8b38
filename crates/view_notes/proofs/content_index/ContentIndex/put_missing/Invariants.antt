use Rattle.std.proofs.Common.{◌≡◌, filter, fold, map, take}
use Rattle.cut_core.specs.Visits.{content_key}
use Rattle.cut_core.specs.WantMap.{wants_in}
use Rattle.cut_core.specs.Wants.{is_missing, want_with, with_want}
use Rattle.view_notes.specs.Names.{address_at}
use Rattle.view_notes.proofs.content_index.ContentIndex.put_missing.Given as goal

-- the wants of the contents before this one were added
abbrev pub invariant-loop-number : goal.invariant-loop-number
invariant-loop-number g l =
    let contents = map (address_at l.self-inside.names.addresses) l.number-items in
    let missing = filter (is_missing (g.H.Holdings.holdings l.holdings))
    (take l.number-index contents) in
    wants_in l.wants ≡ fold with_want (wants_in l.fn.wants)
    (map (want_with l.facts) (map content_key missing))
