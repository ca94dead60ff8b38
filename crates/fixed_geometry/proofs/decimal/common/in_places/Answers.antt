use Rattle.std.proofs.Common.{arith, ◌∙◌, ◌≡◌, ◌+◌, ◌-◌, ◌*◌, ◌/◌, ◌^◌, ◌≤◌, min, ap, sym, lit<}
use Rattle.std.proofs.Math.Nat.{one-le-pow, pow-le-pow_right}
use Rattle.fixed_geometry.proofs.Quotients.{half_size_of_fewer, half_size_of_more, rounded_below}
use Rattle.fixed_geometry.proofs.decimal.common.in_places.Goals as goal

pub returns-then-fraction-places : goal.returns-then-fraction-places
returns-then-fraction-places c =
    let unit : c.power_of_ten.result ≡ 10 ^ (c.args.places - c.args.fraction) =
    c.power_of_ten.ensures ∙ ap (λ p. 10 ^ (p - c.args.fraction)) c.from-places.ensures in
    let exact = half_size_of_fewer c.args.value c.args.places c.args.fraction (omega arith) in
    c.saturating_mul.ensures ∙ (ap (λ u. min (c.args.value * u) (2 ^ 64 - 1)) unit
    ∙ ap (λ n. min n (2 ^ 64 - 1)) (sym exact))

pub nonzero_div-result-2 : goal.nonzero_div-result-2
nonzero_div-result-2 c =
    let some : 1 ≤ 10 ^ (c.args.fraction - c.from-places.result) =
    one-le-pow (c.args.fraction - c.from-places.result) 10 (lit< tt) in
    omega arith

pub returns : goal.returns
returns c =
    let unit : c.power_of_ten-unit.result ≡ 10 ^ (c.args.fraction - c.args.places) =
    c.power_of_ten-unit.ensures ∙ ap (λ p. 10 ^ (c.args.fraction - p)) c.from-places.ensures in
    let exact = half_size_of_more c.args.value c.args.places c.args.fraction (omega arith) in
    let small : 10 ^ (c.args.fraction - c.args.places) ≤ 10 ^ 19 =
    let places : c.args.fraction - c.args.places ≤ 19 = omega arith in
    pow-le-pow_right (lit< tt) places in
    let below = rounded_below c.args.value (10 ^ (c.args.fraction - c.args.places))
    c.requires.value small in
    ap (λ u. (c.args.value + u / 2) / u) unit ∙ omega (arith, exact, below)
