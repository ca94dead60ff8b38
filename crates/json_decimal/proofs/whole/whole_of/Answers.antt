use Rattle.std.proofs.Common.{◌≡◌, ◌∙◌, ap, arith, Some}
use Rattle.fixed_geometry.specs.Decimal.{with_sign, mantissa, exponent}
use Rattle.json_decimal.specs.WholeNumbers.{as_told}
use Rattle.json_decimal.proofs.Wholes.{whole_is, told_clamped}
use Rattle.json_decimal.proofs.whole.whole_of.Goals as goal

pub returns-in_err-size : goal.returns-in_err-size
returns-in_err-size c =
    let parts = c.mantissa_and_exponent in
    let front : parts.result.0.now ≡ mantissa c.args.text.now = cc in
    let back : parts.result.1.now ≡ exponent c.args.text.now = cc in
    c.from_residual.ensures
    ∙ whole_is as_told told_clamped c.args.text.now parts.result.0.now parts.result.1.now c.places_before_point.result
    _ (omega arith) front back c.places_before_point.ensures c.in_err-size.ensures

pub returns : goal.returns
returns c =
    let parts = c.mantissa_and_exponent in
    let front : parts.result.0.now ≡ mantissa c.args.text.now = cc in
    let back : parts.result.1.now ≡ exponent c.args.text.now = cc in
    ap Some (c.told.ensures ∙ ap (λ q. as_told (with_sign q c.in_ok-size.size)) c.has_minus.ensures)
    ∙ whole_is as_told told_clamped c.args.text.now parts.result.0.now parts.result.1.now c.places_before_point.result
    _ (omega arith) front back c.places_before_point.ensures c.in_ok-size.ensures
