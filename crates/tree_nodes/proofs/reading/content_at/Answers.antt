use Rattle.std.proofs.Common.{refl, sym, ap, ◌∙◌, length, List, ℕ, arith, rules}
use Rattle.std.specs.List.{slice_get}
use Rattle.std.proofs.lemmas.Option.{slice_get_read}
use Rattle.tree_nodes.proofs.PlacesRead.{content_read, content_there, contents_read, entry_there, nothing_read}
use Rattle.tree_nodes.proofs.TileChildren.{there}
use Rattle.tree_nodes.proofs.reading.content_at.Goals as goal

pub unreachable-requires : goal.unreachable-requires
unreachable-requires c =
    let read = slice_get_read c.args.list.now.nodes.items _ c.args.place c.index.result.now refl
    c.requires.within c.index.ensures in
    let none = nothing_read c.args.store.now c.args.list.now c.args.place c.index.result.now
    c.requires.sound read c.in-Pending.waiting c.in-Pending.is in
    absurd (omega (arith, c.requires.content, ap length none))

pub tile_of-requires : goal.tile_of-requires
tile_of-requires c =
    let read = slice_get_read c.args.list.now.nodes.items _ c.args.place c.index.result.now refl
    c.requires.within c.index.ensures in
    there c.args.store.now c.args.list.now c.args.place c.index.result.now c.requires.sound read
    c.in-Tile.document c.in-Tile.tile c.in-Tile.is

pub own_content-requires : goal.own_content-requires
own_content-requires c =
    let read = slice_get_read c.args.list.now.nodes.items _ c.args.place c.index.result.now refl
    c.requires.within c.index.ensures in
    let same = contents_read c.args.store.now c.args.list.now c.args.place c.index.result.now
    c.requires.sound read c.in-Tile.document c.in-Tile.tile c.in-Tile.is c.tile_of.result.now
    c.tile_of.ensures in
    omega (arith, c.requires.content, ap length same)

pub index-requires-in-Implicit : goal.index-requires-in-Implicit
index-requires-in-Implicit c =
    let read = slice_get_read c.args.list.now.nodes.items _ c.args.place c.index.result.now refl
    c.requires.within c.index.ensures in
    let there = entry_there c.args.store.now c.args.list.now c.args.place c.index.result.now
    c.requires.sound read c.in-Implicit.place c.in-Implicit.is in
    search (rules, there)

pub index-requires-in-Implicit-2 : goal.index-requires-in-Implicit-2
index-requires-in-Implicit-2 c =
    let read = slice_get_read c.args.list.now.nodes.items _ c.args.place c.index.result.now refl
    c.requires.within c.index.ensures in
    let there = content_there c.args.store.now c.args.list.now c.args.place c.index.result.now
    c.requires.sound read c.in-Implicit.place c.in-Implicit.is c.index-in-Implicit.result.now
    c.index-in-Implicit.ensures c.args.number c.requires.content in
    search (rules, there)

pub returns-in-Tile : goal.returns-in-Tile
returns-in-Tile c =
    let read = slice_get_read c.args.list.now.nodes.items _ c.args.place c.index.result.now refl
    c.requires.within c.index.ensures in
    let same = contents_read c.args.store.now c.args.list.now c.args.place c.index.result.now
    c.requires.sound read c.in-Tile.document c.in-Tile.tile c.in-Tile.is c.tile_of.result.now
    c.tile_of.ensures in
    ap (λ (xs : List (List ℕ)). slice_get xs c.args.number) (sym same) ∙ c.own_content.ensures

pub returns-in-Implicit : goal.returns-in-Implicit
returns-in-Implicit c =
    let read = slice_get_read c.args.list.now.nodes.items _ c.args.place c.index.result.now refl
    c.requires.within c.index.ensures in
    content_read c.args.store.now c.args.list.now c.args.place c.index.result.now c.requires.sound
    read c.in-Implicit.place c.in-Implicit.is c.index-in-Implicit.result.now
    c.index-in-Implicit.ensures c.args.number c.requires.content c.index-in-Implicit-2.result.now
    c.index-in-Implicit-2.ensures
