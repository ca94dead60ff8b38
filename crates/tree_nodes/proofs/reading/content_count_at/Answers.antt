use Rattle.std.proofs.Common.{refl, sym, ap, ◌∙◌, length, List, ℕ, rules}
use Rattle.std.proofs.lemmas.Option.{slice_get_read}
use Rattle.tree_nodes.proofs.PlacesRead.{contents_read, entry_count, entry_there, few_read, nothing_read}
use Rattle.tree_nodes.proofs.reading.content_count_at.Goals as goal

pub own_count-requires : goal.own_count-requires
own_count-requires c =
    let read = slice_get_read c.args.list.now.nodes.items _ c.args.place c.index.result.now refl
    c.requires.within c.index.ensures in
    few_read c.args.store.now c.args.list.now c.args.place c.index.result.now
    c.requires.sound read c.in-Tile.document c.in-Tile.tile c.in-Tile.is c.tile_of.result.now
    c.tile_of.ensures

pub index-requires-in-Implicit : goal.index-requires-in-Implicit
index-requires-in-Implicit c =
    let read = slice_get_read c.args.list.now.nodes.items _ c.args.place c.index.result.now refl
    c.requires.within c.index.ensures in
    let there = entry_there c.args.store.now c.args.list.now c.args.place c.index.result.now
    c.requires.sound read c.in-Implicit.place c.in-Implicit.is in
    search (rules, there)

pub returns-in-Pending : goal.returns-in-Pending
returns-in-Pending c =
    let read = slice_get_read c.args.list.now.nodes.items _ c.args.place c.index.result.now refl
    c.requires.within c.index.ensures in
    sym (ap (λ (xs : List (List ℕ)). length xs)
    (nothing_read c.args.store.now c.args.list.now c.args.place c.index.result.now
    c.requires.sound read c.in-Pending.waiting c.in-Pending.is))

pub returns-in-Tile : goal.returns-in-Tile
returns-in-Tile c =
    let read = slice_get_read c.args.list.now.nodes.items _ c.args.place c.index.result.now refl
    c.requires.within c.index.ensures in
    let same = contents_read c.args.store.now c.args.list.now c.args.place c.index.result.now
    c.requires.sound read c.in-Tile.document c.in-Tile.tile c.in-Tile.is c.tile_of.result.now
    c.tile_of.ensures in
    c.own_count.ensures ∙ ap length same

pub returns-in-Implicit : goal.returns-in-Implicit
returns-in-Implicit c =
    let read = slice_get_read c.args.list.now.nodes.items _ c.args.place c.index.result.now refl
    c.requires.within c.index.ensures in
    entry_count c.args.store.now c.args.list.now c.args.place c.index.result.now c.requires.sound
    read c.in-Implicit.place c.in-Implicit.is c.index-in-Implicit.result.now
    c.index-in-Implicit.ensures
