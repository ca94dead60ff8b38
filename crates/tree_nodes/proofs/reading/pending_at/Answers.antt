use Rattle.std.proofs.Common.{refl, sym}
use Rattle.std.proofs.lemmas.Option.{slice_get_read}
use Rattle.tree_nodes.proofs.PlacesRead.{key_read, no_key, place_key, tile_key, waiting_there}
use Rattle.tree_nodes.proofs.reading.pending_at.Goals as goal

pub returns-in-Tile : goal.returns-in-Tile
returns-in-Tile c =
    let read = slice_get_read c.args.list.now.nodes.items _ c.args.place c.index.result.now refl
    c.requires.within c.index.ensures in
    sym (tile_key c.args._store.now c.args.list.now c.args.place c.index.result.now
    c.requires.sound read
    c.in-Tile.document c.in-Tile.tile c.in-Tile.is)

pub returns-in-Pending : goal.returns-in-Pending
returns-in-Pending c =
    let list = c.args.list.now in
    let read = slice_get_read list.nodes.items _ c.args.place c.index.result.now refl
    c.requires.within c.index.ensures in
    let there = waiting_there c.args._store.now list c.args.place c.index.result.now
    c.requires.sound read c.in-Pending.waiting c.in-Pending.is in
    key_read c.args._store.now list c.args.place c.index.result.now c.requires.sound read
    c.in-Pending.waiting c.in-Pending.is
    c.index-in-Pending.result.now (slice_get_read list.tables.waiting.items _ c.in-Pending.waiting
    c.index-in-Pending.result.now refl there c.index-in-Pending.ensures)

pub returns-in-Read : goal.returns-in-Read
returns-in-Read c =
    let read = slice_get_read c.args.list.now.nodes.items _ c.args.place c.index.result.now refl
    c.requires.within c.index.ensures in
    no_key c.args._store.now c.args.list.now c.args.place c.index.result.now c.requires.sound read
    c.in-Implicit.place c.in-Implicit.is c.index-in-Implicit.result.now c.index-in-Implicit.ensures
    c.in-Read.subtree c.in-Read.is

pub returns-in-Awaited : goal.returns-in-Awaited
returns-in-Awaited c =
    let read = slice_get_read c.args.list.now.nodes.items _ c.args.place c.index.result.now refl
    c.requires.within c.index.ensures in
    place_key c.args._store.now c.args.list.now c.args.place c.index.result.now c.requires.sound
    read c.in-Implicit.place c.in-Implicit.is c.index-in-Implicit.result.now
    c.index-in-Implicit.ensures c.in-Awaited.waiting c.in-Awaited.is c.index-in-Awaited.result.now
    c.index-in-Awaited.ensures
