use Rattle.std.proofs.Common.{◌≡◌, ◌≤◌, ◌+◌, ◌∷◌, suc, drop, drop-cons, sym, ◌∙◌, ap, arith}
use Rattle.tile_cache.specs.Pins.{times}
use Rattle.engine_core.proofs.PinCounts.{once, times_cons, times_self}
use Rattle.engine_core.proofs.pins.unpin_all.Goals as goal

pub unpin-requires : goal.unpin-requires
unpin-requires c =
    let x = c.address-item.result in
    let i = c.loop-address.address-index in
    let xs = c.args.addresses.now in
    let here : drop i xs ≡ x ∷ drop (suc i) xs =
    drop-cons xs i x c.loop-address-test.true
    ∙ ap (λ y. y ∷ drop (suc i) xs) (sym c.address-item.is) in
    let counted : times x (drop i xs) ≡ once x x + times x (drop (suc i) xs) =
    ap (times x) here ∙ times_cons x x (drop (suc i) xs) in
    let self = times_self x in
    let kept = c.loop-address.invariant.pins x in
    let had : times x xs ≤ times x c.args.cache.now.pins = c.requires x in
    record { pinned = omega arith }
