use Rattle.std.proofs.Common.{refl, arith}
use Rattle.std.proofs.lemmas.Option.{slice_get_read}
use Rattle.tree_nodes.proofs.Extending.{extends_then, grows_extends}
use Rattle.tree_nodes.proofs.Rows.{within_stands, room_row}
use Rattle.tree_nodes.proofs.WrittenChildren.{can_take, finished, has_row, next_past, next_within, refused, starts, stepped, there}
use Rattle.tree_nodes.proofs.node_list.NodeList.push_written.Goals as goal

pub bounds-tiles-tile : goal.bounds-tiles-tile
bounds-tiles-tile c =
    within_stands c.args.tiles.now c.args.tile c.requires.there.tree c.requires.there.stands

pub overflow_add-end : goal.overflow_add-end
overflow_add-end c =
    let there = c.requires.there in
    let read = slice_get_read c.args.tiles.now _ c.args.tile c.index-tiles-tile.result refl
    (within_stands c.args.tiles.now c.args.tile there.tree there.stands) c.index-tiles-tile.is in
    omega (
      arith,
      room_row c.args.tiles.now c.args.tile there.tree there.stands
          c.index-tiles-tile.result read,
      c.size.ensures,
      c.tile_count.ensures.fits,
    )

pub overflow_add-next : goal.overflow_add-next
overflow_add-next c =
    omega (
      arith,
      within_stands c.args.tiles.now c.args.tile c.requires.there.tree
          c.requires.there.stands,
      c.tile_count.ensures.fits,
    )

pub loop-next-init : goal.loop-next-init
loop-next-init c =
    let there = c.requires.there in
    let read = slice_get_read c.args.tiles.now _ c.args.tile c.index-tiles-tile.result refl
    (within_stands c.args.tiles.now c.args.tile there.tree there.stands) c.index-tiles-tile.is in
    starts c.args.store.now c.args.limit c.args.self.now c.args.handed c.args.tiles.now
    c.args.document c.args.tile c.size.result c.index-tiles-tile.result there
    c.requires.tiles c.requires.sound read c.size.ensures

pub push_written_tile-requires-clause-sound : goal.push_written_tile-requires-clause-sound
push_written_tile-requires-clause-sound c = c.loop-next.invariant.grows.sound

pub push_written_tile-requires-clause-handed : goal.push_written_tile-requires-clause-handed
push_written_tile-requires-clause-handed c =
    can_take _ _ _ _ _ _ _ _ _ _ _ c.loop-next.invariant c.requires.handed c.requires.some

pub push_written_tile-requires-clause-there : goal.push_written_tile-requires-clause-there
push_written_tile-requires-clause-there c =
    there _ _ _ _ _ _ _ _ _ _ _ c.loop-next.invariant c.loop-next-test.true c.requires.tiles
    c.requires.address

pub push_written_tile-requires-clause-own : goal.push_written_tile-requires-clause-own
push_written_tile-requires-clause-own c =
    let w = c.loop-next.invariant in
    let read = slice_get_read c.args.tiles.now _ c.loop-next.next c.index-tiles-next.result refl
    (omega (arith, w.within, c.loop-next-test.true)) c.index-tiles-next.is in
    has_row _ _ _ _ _ _ _ _ _ _ _ w c.loop-next-test.true c.requires.tiles c.requires.address
    c.index-tiles-next.result read

pub returns-in-Err : goal.returns-in-Err
returns-in-Err c = (
  refused _ _ _ _ _ _ _ _ _ _ _ c.loop-next.invariant c.loop-next-test.true c.requires.tiles
      c.requires.address c.requires.handed c.requires.some c.in-Err.e c.in-Err.ensures.0,
  extends_then c.args.self.now c.loop-next.self c.push_written_tile.new.self
      (grows_extends _ _ _ _ _ c.loop-next.invariant.grows) c.in-Err.ensures.1,
)

pub overflow_add-next-in-loop-next : goal.overflow_add-next-in-loop-next
overflow_add-next-in-loop-next c =
    let w = c.loop-next.invariant in
    let read = slice_get_read c.args.tiles.now _ c.loop-next.next c.index-tiles-next.result refl
    (omega (arith, w.within, c.loop-next-test.true)) c.index-tiles-next.is in
    omega (
      arith,
      next_within _ _ _ _ _ _ _ _ _ _ _ w c.loop-next-test.true c.index-tiles-next.result
          read,
      w.within,
      c.tile_count.ensures.fits,
      c.size-next.ensures,
    )

pub loop-next-smaller : goal.loop-next-smaller
loop-next-smaller c =
    let w = c.loop-next.invariant in
    let read = slice_get_read c.args.tiles.now _ c.loop-next.next c.index-tiles-next.result refl
    (omega (arith, w.within, c.loop-next-test.true)) c.index-tiles-next.is in
    omega (
      arith,
      next_past _ _ _ _ _ _ _ _ _ _ _ w c.loop-next-test.true c.index-tiles-next.result
          read,
      c.size-next.ensures,
      c.loop-next-test.true,
    )

pub loop-next-preserved : goal.loop-next-preserved
loop-next-preserved c =
    let w = c.loop-next.invariant in
    let read = slice_get_read c.args.tiles.now _ c.loop-next.next c.index-tiles-next.result refl
    (omega (arith, w.within, c.loop-next-test.true)) c.index-tiles-next.is in
    rw c.size-next.ensures
    (stepped _ _ _ _ _ _ _ _ _ _ _ w c.loop-next-test.true c.requires.tiles c.requires.address
    c.index-tiles-next.result read c.push_written_tile.new.self c.requires.handed c.requires.some
    c.in-Ok.ensures)

pub returns : goal.returns
returns c =
    finished _ _ _ _ _ _ _ _ _ _ _ c.loop-next.invariant c.loop-next-test.false
