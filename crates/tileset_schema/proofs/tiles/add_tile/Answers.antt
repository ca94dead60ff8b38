use Rattle.std.proofs.Common.{Ok, ◌<◌, ◌∙◌, sym, length, ap}
use Rattle.std.proofs.lemmas.Result.{err_from_is_err_and}
use Rattle.json_decimal.specs.Handles.{json_of, members_left}
use Rattle.tileset_schema.specs.Causes.{◌>>=◌}
use Rattle.tileset_schema.specs.ValuesSeen.{values_seen}
use Rattle.tileset_schema.specs.declared.limits.TheConstants.{TILE_LIMIT}
use Rattle.tileset_schema.proofs.Chains.{fails_same}
use Rattle.tileset_schema.proofs.Lasts.{parts_are, children_are}
use Rattle.tileset_schema.proofs.Steps.{next_is, parts_fail, own_read, adds_one}
use Rattle.tileset_schema.proofs.tiles.add_tile.Goals as goal

pub returns-in_err-push_tile : goal.returns-in_err-push_tile
returns-in_err-push_tile c =
    let p = err_from_is_err_and c.from_residual-in_err-push_tile.result
    c.from_residual-in_err-push_tile.ensures.1 in
    let next = next_is (length c.args.tiles.now.items) c.in_ok-number.number
    c.in_ok-number.ensures in
    let few : c.in_ok-number.number < TILE_LIMIT = rw next.0 next.1 in
    rw (p.1, p.2, ← next.0)
    (parts_fail c.args.base.now c.in_ok-number.number (json_of c.args.value) few
    (members_left c.in-Some.members) c.in-Some.ensures c.in_err-push_tile.field-0.0
    (fails_same c.in_err-push_tile.field-0.0 _ _
    (parts_are c.args.base.now c.in_ok-number.number (members_left c.in-Some.members)
    (values_seen c.new-own.result) (values_seen c.take.new.self) c.new-own.ensures
    c.take.ensures)
    c.in_err-push_tile.ensures))

pub returns : goal.returns
returns c =
    let next = next_is (length c.args.tiles.now.items) c.in_ok-number.number
    c.in_ok-number.ensures in
    let few : c.in_ok-number.number < TILE_LIMIT = rw next.0 next.1 in
    let ms = members_left c.in-Some.members in
    let own = c.in_ok-push_tile.ensures.0 in
    rw (← next.0)
    (adds_one c.args.tiles.now.items c.push_tile.new.tiles.items c.children_of.result _ own _
    c.children_of.ensures
    (own_read c.args.base.now c.in_ok-number.number (json_of c.args.value) few ms
    c.in-Some.ensures own
    (sym
    (parts_are c.args.base.now c.in_ok-number.number ms (values_seen c.new-own.result)
    (values_seen c.take.new.self) c.new-own.ensures c.take.ensures)
    ∙ c.in_ok-push_tile.ensures.1)
    ∙ ap (λ kids. kids >>= λ vs. Ok (own, vs))
    (sym
    (children_are c.in_ok-number.number ms (values_seen c.new-own.result) (values_seen c.take.new.self)
    c.new-own.ensures c.take.ensures)))
    c.in_ok-push_tile.ensures.2)
