use Rattle.std.proofs.Common.{◌-◌, ◌<◌, All, drop, length, map, subst, sym}
use Rattle.std.proofs.lemmas.List.{length-map}
use Rattle.std.proofs.lemmas.List.Elements.{All-drop, All-take}
use Rattle.view_notes.specs.Names.{address_at, names_of}
use Rattle.view_notes.proofs.Indexing.{found_users, in_order, no_users, users_are_nodes}
use Rattle.view_notes.proofs.content_index.ContentIndex.users.Goals as goal

pub returns-in_default-clause-users : goal.returns-in_default-clause-users
returns-in_default-clause-users c =
    rw (← c.self.view_is)
    (no_users _ c.args.address.now (sym c.in_default.ensures.found) 0 _ c.self.invariant.numbered)

pub returns-clause-users : goal.returns-clause-users
returns-clause-users c =
    let i = c.self.inside in
    let x = c.self.invariant in
    let part = c.part_of-start in
    let from = rw c.deref.ensures.value at part.ensures.start in
    let to = rw c.deref.ensures.value at part.ensures.end in
    let start_within = rw c.deref.ensures.value at part.ensures.start_within in
    let end_within = rw c.deref.ensures.value at part.ensures.end_within in
    rw (c.deref-2.ensures.value, ← c.self.view_is)
    (found_users i.names i.contents.items i.users.items x c.args.address.now c.in-Some.content
    part.result.0 part.result.1 from to end_within
    (in_order i.names i.contents.items i.users.items x c.args.address.now c.in-Some.content
    part.result.0 part.result.1 from to end_within start_within)
    (sym c.in-Some.ensures.number))

pub returns-clause-within : goal.returns-clause-within
returns-clause-within c =
    let i = c.self.inside in
    let part = c.part_of-start.result in
    let nodes : All (λ u. u < length (names_of i.names)) i.users.items =
    subst (λ n. All (λ u. u < n) i.users.items)
    (sym (length-map i.names.numbers (map (address_at i.names.addresses))))
    (users_are_nodes i.names i.contents.items i.users.items c.self.invariant) in
    rw (c.deref-2.ensures.value, ← c.self.view_is)
    (All-take (λ u. u < length (names_of i.names)) (part.1 - part.0) (drop part.0 i.users.items)
    (All-drop (λ u. u < length (names_of i.names)) part.0 i.users.items nodes))
