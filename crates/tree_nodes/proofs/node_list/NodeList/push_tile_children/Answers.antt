use Rattle.std.proofs.Common.{Some, sym, ap, ◌∙◌, arith}
use Rattle.tree_nodes.proofs.Extending.{extends_then, grows_extends}
use Rattle.tree_nodes.proofs.Rows.{row_within}
use Rattle.tree_nodes.proofs.TileChildren.{all_children, can_mid, parent_by, refused_external, refused_written, room_mid, some_mid, sound_mid, there}
use Rattle.tree_nodes.proofs.node_list.NodeList.push_tile_children.Goals as goal

pub bounds-tiles-tile : goal.bounds-tiles-tile
bounds-tiles-tile c =
    row_within c.args.store.now c.args.document c.args.tile c.tiles-tiles.result.now
    (there c.args.store.now c.args.self.now c.args.place c.args.node c.requires.sound
    c.requires.node c.args.document c.args.tile c.requires.source)
    (sym c.in-Some.ensures.tiles ∙ ap Some (sym c.tiles-tiles.ensures))

pub push_written-requires-clause-handed : goal.push_written-requires-clause-handed
push_written-requires-clause-handed c =
    let p = parent_by c.args.store.now c.args.self.now c.args.place c.args.node c.args.document
    c.args.tile
    c.tiles-tiles.result.now c.in-Some.found.now.rows c.index-tiles-tile.result c.requires.sound
    c.requires.node c.requires.source
    c.in-Some.ensures.tiles c.tiles-tiles.ensures c.index-tiles-tile.is
    (omega (arith, c.content_count.ensures, c.size.ensures, c.if-content_count-size.false)) in
    p.can

pub push_written-requires-clause-address : goal.push_written-requires-clause-address
push_written-requires-clause-address c =
    let p = parent_by c.args.store.now c.args.self.now c.args.place c.args.node c.args.document
    c.args.tile
    c.tiles-tiles.result.now c.in-Some.found.now.rows c.index-tiles-tile.result c.requires.sound
    c.requires.node c.requires.source
    c.in-Some.ensures.tiles c.tiles-tiles.ensures c.index-tiles-tile.is
    (omega (arith, c.content_count.ensures, c.size.ensures, c.if-content_count-size.false)) in
    p.address

pub push_external-requires-clause-sound : goal.push_external-requires-clause-sound
push_external-requires-clause-sound c =
    let p = parent_by c.args.store.now c.args.self.now c.args.place c.args.node c.args.document
    c.args.tile
    c.tiles-tiles.result.now c.in-Some.found.now.rows c.index-tiles-tile.result c.requires.sound
    c.requires.node c.requires.source
    c.in-Some.ensures.tiles c.tiles-tiles.ensures c.index-tiles-tile.is
    (omega (arith, c.content_count.ensures, c.size.ensures, c.if-content_count-size.false)) in
    sound_mid _ _ _ _ _ _ _ _ _ _ p c.in-Ok.number c.in-Ok.ensures

pub push_external-requires-clause-handed : goal.push_external-requires-clause-handed
push_external-requires-clause-handed c =
    let p = parent_by c.args.store.now c.args.self.now c.args.place c.args.node c.args.document
    c.args.tile
    c.tiles-tiles.result.now c.in-Some.found.now.rows c.index-tiles-tile.result c.requires.sound
    c.requires.node c.requires.source
    c.in-Some.ensures.tiles c.tiles-tiles.ensures c.index-tiles-tile.is
    (omega (arith, c.content_count.ensures, c.size.ensures, c.if-content_count-size.false)) in
    can_mid _ _ _ _ _ _ _ _ _ _ p c.in-Ok.number c.in-Ok.ensures

pub push_external-requires-clause-some : goal.push_external-requires-clause-some
push_external-requires-clause-some c =
    let p = parent_by c.args.store.now c.args.self.now c.args.place c.args.node c.args.document
    c.args.tile
    c.tiles-tiles.result.now c.in-Some.found.now.rows c.index-tiles-tile.result c.requires.sound
    c.requires.node c.requires.source
    c.in-Some.ensures.tiles c.tiles-tiles.ensures c.index-tiles-tile.is
    (omega (arith, c.content_count.ensures, c.size.ensures, c.if-content_count-size.false)) in
    some_mid _ _ _ _ _ _ _ _ _ _ p c.in-Ok.number c.in-Ok.ensures

pub push_external-requires-clause-few : goal.push_external-requires-clause-few
push_external-requires-clause-few c =
    let p = parent_by c.args.store.now c.args.self.now c.args.place c.args.node c.args.document
    c.args.tile
    c.tiles-tiles.result.now c.in-Some.found.now.rows c.index-tiles-tile.result c.requires.sound
    c.requires.node c.requires.source
    c.in-Some.ensures.tiles c.tiles-tiles.ensures c.index-tiles-tile.is
    (omega (arith, c.content_count.ensures, c.size.ensures, c.if-content_count-size.false)) in
    room_mid _ _ _ _ _ _ _ _ _ _ p c.in-Ok.number c.in-Ok.ensures

pub returns-in-Err : goal.returns-in-Err
returns-in-Err c =
    let p = parent_by c.args.store.now c.args.self.now c.args.place c.args.node c.args.document
    c.args.tile
    c.tiles-tiles.result.now c.in-Some.found.now.rows c.index-tiles-tile.result c.requires.sound
    c.requires.node c.requires.source
    c.in-Some.ensures.tiles c.tiles-tiles.ensures c.index-tiles-tile.is
    (omega (arith, c.content_count.ensures, c.size.ensures, c.if-content_count-size.false)) in (
      refused_written c.args.store.now c.args.limit c.args.self.now c.push_written.new.self _ _ _ _ _
          _ p c.in-Err.e c.in-Err.ensures.0,
      c.in-Err.ensures.1,
    )

pub returns-in-Err-push_external : goal.returns-in-Err-push_external
returns-in-Err-push_external c =
    let p = parent_by c.args.store.now c.args.self.now c.args.place c.args.node c.args.document
    c.args.tile
    c.tiles-tiles.result.now c.in-Some.found.now.rows c.index-tiles-tile.result c.requires.sound
    c.requires.node c.requires.source
    c.in-Some.ensures.tiles c.tiles-tiles.ensures c.index-tiles-tile.is
    (omega (arith, c.content_count.ensures, c.size.ensures, c.if-content_count-size.false)) in (
      refused_external _ _ _ _ _ _ _ _ _ _ p c.in-Ok.number c.in-Ok.ensures c.in-Err-push_external.e
          c.in-Err-push_external.ensures.0,
      extends_then c.args.self.now c.push_written.new.self c.push_external.new.self
          (grows_extends _ _ _ _ _ c.in-Ok.ensures.grows) c.in-Err-push_external.ensures.1,
    )

pub returns-in-Ok-push_external : goal.returns-in-Ok-push_external
returns-in-Ok-push_external c =
    let p = parent_by c.args.store.now c.args.self.now c.args.place c.args.node c.args.document
    c.args.tile
    c.tiles-tiles.result.now c.in-Some.found.now.rows c.index-tiles-tile.result c.requires.sound
    c.requires.node c.requires.source
    c.in-Some.ensures.tiles c.tiles-tiles.ensures c.index-tiles-tile.is
    (omega (arith, c.content_count.ensures, c.size.ensures, c.if-content_count-size.false)) in
    all_children _ _ _ _ _ _ _ _ _ _ p c.in-Ok.number c.in-Ok.ensures c.push_external.new.self
    c.in-Ok-push_external.ensures
