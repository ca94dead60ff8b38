use Rattle.std.proofs.Common.{◌≡◌, false, map, take}
use Rattle.std.specs.List.{list_any}
use Rattle.view_notes.specs.Names.{address_at}
use Rattle.view_notes.proofs.content_index.ContentIndex.names_awaited.Given as goal

-- none of the contents before this one is awaited
abbrev pub invariant-loop-number : goal.invariant-loop-number
invariant-loop-number g l =
    list_any (g.A.Awaited.awaited l.awaited) (map (address_at l.self-inside.names.addresses)
    (take l.number-index l.number-items)) ≡ false
