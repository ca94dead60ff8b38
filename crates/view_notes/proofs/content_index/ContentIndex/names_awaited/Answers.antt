use Rattle.std.proofs.Common.{◌∙◌, ap, map, sym}
use Rattle.std.specs.List.{list_any}
use Rattle.std.proofs.lemmas.List.{take_all}
use Rattle.view_notes.specs.Names.{address_at}
use Rattle.view_notes.proofs.Indexing.{any_named, node_names}
use Rattle.view_notes.proofs.content_index.ContentIndex.names_awaited.Goals as goal

pub returns-then-is_awaited : goal.returns-then-is_awaited
returns-then-is_awaited g c =
    let n = c.self.inside.names in
    let awaited = g.A.Awaited.awaited c.args.awaited.now in
    let ks = c.numbers-number-items.result.now in
    rw (← c.self.view_is)
    (sym (ap (list_any awaited) (node_names n c.args.node ks c.numbers-number-items.ensures.numbers)
    ∙ any_named awaited (address_at n.addresses) ks c.loop-number.number-index
    c.loop-number-test.true
    (ap awaited c.address.ensures ∙ sym c.is_awaited.ensures ∙ c.if-is_awaited.true)))

pub returns : goal.returns
returns g c =
    let n = c.self.inside.names in
    let awaited = g.A.Awaited.awaited c.args.awaited.now in
    let ks = c.numbers-number-items.result.now in
    let none = c.loop-number.invariant in
    rw (← c.self.view_is)
    (sym (ap (list_any awaited) (node_names n c.args.node ks c.numbers-number-items.ensures.numbers)
    ∙ ap (λ xs. list_any awaited (map (address_at n.addresses) xs))
    (sym (take_all c.loop-number.number-index ks c.loop-number-test.false)) ∙ none))
