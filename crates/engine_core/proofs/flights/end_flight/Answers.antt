use Rattle.std.proofs.Common.{◌≡◌, Some, None, position, sym, ◌∙◌, ap}
use Rattle.cut_core.proofs.Bools.{and_left}
use Rattle.tile_types.proofs.Keys.{key_is}
use Rattle.engine_state.specs.Loading.{is_flight_of}
use Rattle.engine_core.proofs.Firsts.{first_passes, has_first, removes_first}
use Rattle.engine_core.proofs.flights.end_flight.Goals as goal

pub unreachable-requires : goal.unreachable-requires
unreachable-requires c =
    let flying = c.args.flying.now.items in
    let test = is_flight_of c.args.pass c.args.key.now in
    let none : position test flying ≡ None =
    ap (position test) (sym c.as_slice.ensures) ∙ sym c.place_of.ensures ∙ c.in-None.is in
    has_first test flying c.requires none

pub returns-clause-key : goal.returns-clause-key
returns-clause-key c =
    let flying = c.args.flying.now.items in
    let test = is_flight_of c.args.pass c.args.key.now in
    let some : position test flying ≡ Some c.in-Some.at =
    ap (position test) (sym c.as_slice.ensures) ∙ sym c.place_of.ensures ∙ c.in-Some.is in
    key_is c.remove.result.key c.args.key.now
    (and_left _ _ (first_passes test flying c.in-Some.at c.remove.result some
    c.remove.ensures.value))

pub returns-clause-flying : goal.returns-clause-flying
returns-clause-flying c =
    let flying = c.args.flying.now.items in
    let test = is_flight_of c.args.pass c.args.key.now in
    let some : position test flying ≡ Some c.in-Some.at =
    ap (position test) (sym c.as_slice.ensures) ∙ sym c.place_of.ensures ∙ c.in-Some.is in
    c.remove.ensures.rest
    ∙ removes_first test flying c.in-Some.at c.remove.result some c.remove.ensures.value
