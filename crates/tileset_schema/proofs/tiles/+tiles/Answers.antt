use Rattle.std.proofs.Common.{◌≡◌, ◌≤◌, ◌+◌, [], ap, sym, ◌∙◌, refl, length, arith, rules, append-nil, length-append}
use Rattle.std.proofs.lemmas.Result.{err_from_is_err_and}
use Rattle.json_decimal.specs.Handles.{json_of, items_left}
use Rattle.json_decimal.specs.JsonValue.{values, values_depth}
use Rattle.json_decimal.proofs.Parted.{split_none}
use Rattle.tileset_schema.specs.Added.{alone, children_left}
use Rattle.tileset_schema.specs.Preorder.{all_rows}
use Rattle.tileset_schema.specs.Tiles.{no_tiles, written}
use Rattle.tileset_schema.specs.declared.limits.TheConstants.{TILE_LIMIT}
use Rattle.tileset_schema.proofs.Depths.{children_smaller, left_depth}
use Rattle.tileset_schema.proofs.Following.{starts, goes_on, stops, ends, longer, whole_tile}
use Rattle.tileset_schema.proofs.Steps.{own_is, own_fails, below_fails, whole}
use Rattle.tileset_schema.proofs.tiles.+tiles.Goals as goal

pub
    read_children-returns-in_default-clause-tiles :
    goal.read_children-returns-in_default-clause-tiles
read_children-returns-in_default-clause-tiles t
    c = (no_tiles, rw c.in_default.is refl, sym (append-nil c.args.tiles.now.items))

pub read_children-loop-child-init : goal.read_children-loop-child-init
read_children-loop-child-init t c =
    let same : children_left c.args.children ≡ items_left c.in-Some.rest = ap children_left
    c.in-Some.is in record {
      few = c.requires.few;
      within = omega (arith, ap (λ vs. values_depth (values vs)) same);
      told = rw same (starts c.args.base.now c.args.tiles.now.items (items_left c.in-Some.rest));
    }

pub read_children-loop-child-preserved : goal.read_children-loop-child-preserved
read_children-loop-child-preserved t c = record {
  few = c.in_ok-read_tile.ensures.few;
  within = omega (
    arith,
    c.loop-child.invariant.within,
    left_depth (items_left c.loop-child.rest)
        (items_left c.next.new.self) (json_of c.in-Some-next.child) c.in-Some-next.ensures,
  );
  told = goes_on c.args.base.now c.args.tiles.now.items c.loop-child.tiles.items
      (children_left c.args.children) (items_left c.loop-child.rest) (items_left c.next.new.self)
      (json_of c.in-Some-next.child) c.in-Some-next.ensures c.loop-child.invariant.told
      c.read_tile.new.tiles.items c.in_ok-read_tile.ensures.tile.0
      c.in_ok-read_tile.ensures.tile.1 c.in_ok-read_tile.ensures.tile.2;
}

pub
    read_children-returns-in_err-read_tile-clause-tiles :
    goal.read_children-returns-in_err-read_tile-clause-tiles
read_children-returns-in_err-read_tile-clause-tiles t c =
    let p = err_from_is_err_and c.from_residual.result c.from_residual.ensures.1 in
    rw (p.1, p.2)
    (stops c.args.base.now c.args.tiles.now.items c.loop-child.tiles.items
    (children_left c.args.children) (items_left c.loop-child.rest)
    (items_left c.next.new.self) (json_of c.in-Some-next.child) c.in-Some-next.ensures
    c.loop-child.invariant.told
    c.in_err-read_tile.field-0.0 c.in_err-read_tile.ensures.tile)

pub read_children-returns-clause-tiles : goal.read_children-returns-clause-tiles
read_children-returns-clause-tiles t c =
    let at_end : items_left c.loop-child.rest ≡ [] = split_none (items_left c.loop-child.rest)
    c.in_default-next.ensures in
    ends c.args.base.now c.args.tiles.now.items c.loop-child.tiles.items
    (children_left c.args.children) (rw (← at_end) c.loop-child.invariant.told)

pub
    read_tile-returns-in_err-children-clause-tile :
    goal.read_tile-returns-in_err-children-clause-tile
read_tile-returns-in_err-children-clause-tile t c =
    let p = err_from_is_err_and c.from_residual.result c.from_residual.ensures.1 in
    rw (p.1, p.2)
    (own_fails c.args.base.now (length c.args.tiles.now.items)
    (json_of c.args.value) c.in_err-children.field-0.0 c.in_err-children.ensures)

pub read_tile-read_children-requires : goal.read_tile-read_children-requires
read_tile-read_children-requires t c =
    let own = own_is c.args.base.now (length c.args.tiles.now.items)
    (json_of c.args.value) c.in_ok-children.ensures.0
    (children_left c.in_ok-children.children) c.in_ok-children.ensures.1 in
    let few : length c.add_tile.new.tiles.items ≤ TILE_LIMIT = omega (
      arith,
      own.few,
      longer c.args.tiles.now.items c.add_tile.new.tiles.items
          (alone c.in_ok-children.ensures.0) c.in_ok-children.ensures.2,
    ) in
    let smaller = children_smaller (json_of c.args.value) own.members
    (length c.args.tiles.now.items) (children_left c.in_ok-children.children) own.are
    own.children in
    search rules

pub
    read_tile-returns-in_err-read_children-clause-tile :
    goal.read_tile-returns-in_err-read_children-clause-tile
read_tile-returns-in_err-read_children-clause-tile t c =
    let p = err_from_is_err_and c.from_residual-in_err-read_children.result
    c.from_residual-in_err-read_children.ensures.1 in
    let more = longer c.args.tiles.now.items c.add_tile.new.tiles.items
    (alone c.in_ok-children.ensures.0) c.in_ok-children.ensures.2 in
    rw (p.1, p.2)
    (below_fails c.args.base.now (length c.args.tiles.now.items)
    (json_of c.args.value) c.in_ok-children.ensures.0
    (children_left c.in_ok-children.children) c.in_ok-children.ensures.1
    c.in_err-read_children.field-0.0 (rw (← more) c.in_err-read_children.ensures.tiles))

pub read_tile-returns-clause-tile : goal.read_tile-returns-clause-tile
read_tile-returns-clause-tile t c =
    let own = c.in_ok-children.ensures.0 in
    let more = longer c.args.tiles.now.items c.add_tile.new.tiles.items
    (alone own) c.in_ok-children.ensures.2 in
    let ts = c.in_ok-read_children.ensures.tiles.0 in
    let
    count : length c.read_children.new.tiles.items ≡ length c.add_tile.new.tiles.items +
    length (all_rows ts) =
    ap length c.in_ok-read_children.ensures.tiles.2 ∙ length-append c.add_tile.new.tiles.items
    (all_rows ts) in
    let
    long : c.set_size.new.self.size + c.len-number.result
    ≡ length c.read_children.new.tiles.items =
    omega (arith, c.set_size.ensures.size, c.len.ensures, c.len-number.ensures, count, more) in (
      written own ts,
      whole c.args.base.now (length c.args.tiles.now.items) (json_of c.args.value) own
          (children_left c.in_ok-children.children) c.in_ok-children.ensures.1 ts
          (rw (← more) c.in_ok-read_children.ensures.tiles.1),
      whole_tile c.args.tiles.now.items c.read_children.new.tiles.items
          (alone own) c.set_size.new.self c.index_mut.result.now c.len-number.result ts
          (omega (arith, c.len-number.ensures, c.args.tiles.now.ok.0))
          (rw (← c.in_ok-children.ensures.2) c.in_ok-read_children.ensures.tiles.2)
          c.index_mut.ensures.value c.set_size.ensures.parts long,
    )
