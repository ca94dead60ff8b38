use Rattle.std.proofs.Common.{refl}
use Rattle.std.proofs.lemmas.Option.{slice_get_read}
use Rattle.tree_nodes.proofs.TablePlaced.{pending_told, read_told, tile_told, waits_told}
use Rattle.tree_nodes.proofs.table_place.table_place_at.Goals as goal

pub returns-in-Tile : goal.returns-in-Tile
returns-in-Tile c =
    let read = slice_get_read c.args.list.now.nodes.items _ c.args.at c.index.result.now refl
    c.requires.within c.index.ensures in
    tile_told c.args.store.now c.args.list.now c.args.at c.index.result.now c.requires.sound read
    c.in-Tile.document c.in-Tile.tile c.in-Tile.is

pub returns-in-Pending : goal.returns-in-Pending
returns-in-Pending c =
    let read = slice_get_read c.args.list.now.nodes.items _ c.args.at c.index.result.now refl
    c.requires.within c.index.ensures in
    pending_told c.args.store.now c.args.list.now c.args.at c.index.result.now c.requires.sound read
    c.in-Pending.waiting c.in-Pending.is

pub returns-in-Read : goal.returns-in-Read
returns-in-Read c =
    let read = slice_get_read c.args.list.now.nodes.items _ c.args.at c.index.result.now refl
    c.requires.within c.index.ensures in
    read_told c.args.store.now c.args.list.now c.args.at c.index.result.now c.requires.sound read
    c.in-Implicit.place c.in-Implicit.is c.index-in-Implicit.result.now c.index-in-Implicit.ensures
    c.in-Read.subtree c.in-Read.is c.place_in.result c.place_in.ensures

pub returns-in-Awaited : goal.returns-in-Awaited
returns-in-Awaited c =
    let read = slice_get_read c.args.list.now.nodes.items _ c.args.at c.index.result.now refl
    c.requires.within c.index.ensures in
    waits_told c.args.store.now c.args.list.now c.args.at c.index.result.now c.requires.sound read
    c.in-Implicit.place c.in-Implicit.is c.index-in-Implicit.result.now c.index-in-Implicit.ensures
    c.in-Awaited.waiting c.in-Awaited.is
