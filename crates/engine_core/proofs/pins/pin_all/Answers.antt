use Rattle.std.proofs.Common.{◌<◌, ◌+◌, arith, length}
use Rattle.tile_cache.specs.Pins.{times}
use Rattle.tile_cache.specs.declared.cache.TheConstants.{PIN_LIMIT}
use Rattle.engine_core.proofs.PinCounts.{times_few}
use Rattle.engine_core.proofs.pins.pin_all.Goals as goal

pub pin-requires-clause-limit : goal.pin-requires-clause-limit
pin-requires-clause-limit c =
    let x = c.address-item.result in
    let kept = c.loop-address.invariant.pins x in
    let few = times_few x c.args.addresses.now in
    let limit : times x c.args.cache.now.pins + length c.args.addresses.now < PIN_LIMIT =
    c.requires.limit x in
    omega arith
