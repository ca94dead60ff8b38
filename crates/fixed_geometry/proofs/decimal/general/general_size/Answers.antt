use Rattle.std.proofs.Common.{arith, ◌∙◌, ◌≡◌, ◌+◌, ◌-◌, ◌*◌, ◌/◌, ◌^◌, ◌<◌, min, ap, take, drop}
use Rattle.std.proofs.Common.{length, length-drop, take_all}
use Rattle.std.specs.List.{before_first}
use Rattle.fixed_geometry.specs.Decimal.{mantissa, exponent, whole_places, digit_count, is_point}
use Rattle.fixed_geometry.specs.Decimal.{digits_value, has_minus}
use Rattle.fixed_geometry.proofs.Decimals.{keep_at, size_of_text}
use Rattle.fixed_geometry.proofs.decimal.general.general_size.Goals as goal

pub returns : goal.returns
returns c =
    let t = c.args.text.now in
    let mark = c.exponent_place-mark.result in
    let prefix : take mark t ≡ mantissa t = ap (λ i. take i t) c.exponent_place-mark.ensures.place in
    let back : take (length t - mark) (drop mark t) ≡ exponent t =
    take_all (length t - mark) (drop mark t) (omega (arith, length-drop mark t))
    ∙ ap (λ i. drop i t) c.exponent_place-mark.ensures.place in
    let whole : c.count_digits.result ≡ whole_places t =
    c.count_digits.ensures
    ∙ (ap (λ i. digit_count (take i (take mark t))) c.point_place.ensures.place
    ∙ ap (λ x. digit_count (before_first is_point x)) prefix) in
    let short : length t < 2 ^ 64 = omega arith in
    let room = c.count_digits.result + c.args.places + 1 in
    let is_room : c.count_digits.result + c.args.places + 1 ≡ whole_places t + c.args.places + 1 =
    ap (λ x. x + c.args.places + 1) whole in
    let power : c.exponent_size.result ≡ min (digits_value (exponent t)) (2 ^ 70) =
    c.exponent_size.ensures ∙ ap (λ x. min (digits_value x) (2 ^ 70)) back in
    let minus = c.has_minus.ensures ∙ ap has_minus back in
    let keep : c.kept_digits-keep.result
    ≡ keep_at (has_minus (exponent t)) (c.count_digits.result + c.args.places + 1)
    c.exponent_size.result =
    c.kept_digits-keep.ensures
    ∙ (ap (λ x. keep_at c.has_minus.result (c.count_digits.result + x + 1) c.exponent_size.result)
    c.from.ensures
    ∙ ap (λ b. keep_at b (c.count_digits.result + c.args.places + 1) c.exponent_size.result) minus)
    in
    let clamped : c.leading_digits-tenfold.result
    ≡ min (digits_value (mantissa t) * 10 ^
    (c.kept_digits-keep.result - digit_count (mantissa t)) / 10 ^
    (digit_count (mantissa t) - c.kept_digits-keep.result)) (2 ^ 64) =
    c.leading_digits-tenfold.ensures
    ∙ ap (λ x. min (digits_value x * 10 ^ (c.kept_digits-keep.result - digit_count x) / 10 ^
    (digit_count x - c.kept_digits-keep.result)) (2 ^ 64)) prefix in
    c.min.ensures ∙ (ap (λ m. min ((c.leading_digits-tenfold.result + 5) / 10) m) c.from-2.ensures
    ∙ size_of_text t c.args.places room c.exponent_size.result c.kept_digits-keep.result
    c.leading_digits-tenfold.result short c.requires is_room power keep clamped)
