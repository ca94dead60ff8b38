use Rattle.std.proofs.Common.{refl, sym, ◌∙◌}
use Rattle.std.proofs.lemmas.Option.{slice_get_read}
use Rattle.tree_nodes.proofs.Maps.{map_read}
use Rattle.tree_nodes.proofs.PlacesRead.{facts_read, place_read, place_there, transform_there, waiting_read, waiting_there}
use Rattle.tree_nodes.proofs.reading.facts_at.Goals as goal

pub returns-in-Pending : goal.returns-in-Pending
returns-in-Pending c =
    let store = c.args.store.now in
    let list = c.args.list.now in
    let n = c.index-node.result.now in
    let read = slice_get_read list.nodes.items _ c.args.place n refl c.requires.within
    c.index-node.ensures in
    let there = waiting_there store list c.args.place n c.requires.sound read c.in-Pending.waiting
    c.in-Pending.is in
    waiting_read store list c.args.place n c.requires.sound read c.in-Pending.waiting
    c.in-Pending.is c.index.result.now
    (slice_get_read list.tables.waiting.items _ c.in-Pending.waiting c.index.result.now refl there
    c.index.ensures)

pub returns-in-Tile : goal.returns-in-Tile
returns-in-Tile c =
    let store = c.args.store.now in
    let list = c.args.list.now in
    let n = c.index-node.result.now in
    let read = slice_get_read list.nodes.items _ c.args.place n refl c.requires.within
    c.index-node.ensures in
    let there = transform_there store list c.args.place n c.requires.sound read in
    c.tile_facts.ensures
    ∙ facts_read store list c.args.place n c.requires.sound read c.in-Tile.document c.in-Tile.tile
    c.in-Tile.is
    c.tile_of.result.now c.tile_of.ensures c.index-transform.result.now
    (map_read list.tables.transforms.items n.transform c.index-transform.result.now there
    c.index-transform.ensures)

pub returns-in-Implicit : goal.returns-in-Implicit
returns-in-Implicit c =
    let store = c.args.store.now in
    let list = c.args.list.now in
    let n = c.index-node.result.now in
    let read = slice_get_read list.nodes.items _ c.args.place n refl c.requires.within
    c.index-node.ensures in
    let p = place_there store list c.args.place n c.requires.sound read c.in-Implicit.place
    c.in-Implicit.is in
    c.place_facts.ensures p
    ∙ sym (place_read store list c.args.place n c.requires.sound read c.in-Implicit.place
    c.in-Implicit.is p).facts
