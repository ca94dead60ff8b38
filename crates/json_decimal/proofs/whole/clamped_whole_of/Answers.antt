use Rattle.std.proofs.Common.{◌≡◌, ◌∙◌, ap, sym, arith, rules, Some, to_z, of_z}
use Rattle.std.specs.Int.{w128}
use Rattle.fixed_geometry.specs.Decimal.{with_sign, mantissa, exponent}
use Rattle.json_decimal.specs.WholeNumbers.{clamped}
use Rattle.json_decimal.proofs.Wholes.{whole_is, clamped_again, clamped_sign}
use Rattle.json_decimal.proofs.whole.clamped_whole_of.Goals as goal

pub returns-in_err-size : goal.returns-in_err-size
returns-in_err-size c =
    let parts = c.mantissa_and_exponent in
    let front : parts.result.0.now ≡ mantissa c.args.text.now = cc in
    let back : parts.result.1.now ≡ exponent c.args.text.now = cc in
    c.from_residual.ensures
    ∙ whole_is clamped clamped_again c.args.text.now parts.result.0.now parts.result.1.now
    c.places_before_point.result _ (omega arith) front back c.places_before_point.ensures
    c.in_err-size.ensures

pub returns : goal.returns
returns c =
    let parts = c.mantissa_and_exponent in
    let front : parts.result.0.now ≡ mantissa c.args.text.now = cc in
    let back : parts.result.1.now ≡ exponent c.args.text.now = cc in
    let kept : to_z w128 (of_z w128 c.signed.result) ≡ c.signed.result = search rules in
    ap Some
    (kept ∙ c.signed.ensures
    ∙ (ap (with_sign c.has_minus.result) c.min.ensures
    ∙ (sym (clamped_sign c.has_minus.result c.in_ok-size.size)
    ∙ ap (λ q. clamped (with_sign q c.in_ok-size.size)) c.has_minus.ensures)))
    ∙ whole_is clamped clamped_again c.args.text.now parts.result.0.now parts.result.1.now
    c.places_before_point.result _ (omega arith) front back c.places_before_point.ensures
    c.in_ok-size.ensures
