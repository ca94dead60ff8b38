use Rattle.std.proofs.Common.{◌≡◌, ◌++◌, List, ℕ, take, Some, sym, subst, ap, ◌∙◌}
use Rattle.std.specs.Str.{IsUtf8}
use Rattle.std.specs.Char.{encode_utf8}
use Rattle.std.specs.String.{string_bytes}
use Rattle.std.specs.Prelude.{option_map}
use Rattle.json_decimal.specs.Strings.{string_at}
use Rattle.json_decimal.proofs.Runs.{broken, closes, stops, no_escape, goes_on, falls}
use Rattle.json_decimal.proofs.strings.text_at.Goals as goal

pub returns-in_default : goal.returns-in_default
returns-in_default c =
    sym (ap (option_map (λ x. x.0)) (broken (string_bytes c.loop-run.text) c.loop-run.rest.now
    c.plain_len.result c.plain_len.ensures.value (string_at c.args.bytes.now) c.loop-run.invariant
    (λ u. c.in_default.ensures.cases.0 (subst IsUtf8 (sym c.split_at.ensures.front) u))))

pub returns-in-Quote : goal.returns-in-Quote
returns-in-Quote c =
    let u : IsUtf8 (take c.plain_len.result c.loop-run.rest.now) =
    subst IsUtf8 c.split_at.ensures.front c.in-Ok.ensures.cases.1 in
    let text : string_bytes c.loop-run.text ++ take c.plain_len.result c.loop-run.rest.now
    ≡ c.in_ok-new-in-Quote.field-0 = ap (λ (t : List ℕ). string_bytes c.loop-run.text ++ t)
    (sym c.split_at.ensures.front ∙ sym c.in-Ok.ensures.cases.0)
    ∙ sym c.in_ok-push_str.ensures.bytes ∙ sym c.as_str.ensures.value
    ∙ sym c.in_ok-new-in-Quote.ensures.value in
    ap Some (sym text) ∙ sym (ap (option_map (λ x. x.0))
    (closes (string_bytes c.loop-run.text) c.loop-run.rest.now c.plain_len.result
    c.plain_len.ensures.value (string_at c.args.bytes.now) c.loop-run.invariant
    c.in-Quote.field-0.now u (rw (← c.split_at.ensures.back) c.in-Quote.ensures)))

pub returns-in_default-escape : goal.returns-in_default-escape
returns-in_default-escape c =
    let u : IsUtf8 (take c.plain_len.result c.loop-run.rest.now) =
    subst IsUtf8 c.split_at.ensures.front c.in-Ok.ensures.cases.1 in
    sym (ap (option_map (λ x. x.0)) (no_escape (string_bytes c.loop-run.text) c.loop-run.rest.now
    c.plain_len.result c.plain_len.ensures.value (string_at c.args.bytes.now) c.loop-run.invariant
    c.in-Escape.after.now u (rw (← c.split_at.ensures.back) c.in-Escape.ensures)
    (sym c.in_default-escape.ensures.value)))

pub returns-in-Neither : goal.returns-in-Neither
returns-in-Neither c =
    let u : IsUtf8 (take c.plain_len.result c.loop-run.rest.now) =
    subst IsUtf8 c.split_at.ensures.front c.in-Ok.ensures.cases.1 in
    sym (ap (option_map (λ x. x.0)) (stops (string_bytes c.loop-run.text) c.loop-run.rest.now
    c.plain_len.result c.plain_len.ensures.value (string_at c.args.bytes.now) c.loop-run.invariant u
    (rw (← c.split_at.ensures.back) c.in-Neither.ensures)))

pub loop-run-smaller : goal.loop-run-smaller
loop-run-smaller c =
    falls (string_bytes c.loop-run.text) c.loop-run.rest.now c.plain_len.result
    c.plain_len.ensures.value (string_at c.args.bytes.now) c.loop-run.invariant
    c.in-Escape.after.now c.in-Some.after.now c.in-Some.code
    (rw (← c.split_at.ensures.back) c.in-Escape.ensures) (sym c.in-Some.ensures.value)

pub loop-run-preserved : goal.loop-run-preserved
loop-run-preserved c =
    let u : IsUtf8 (take c.plain_len.result c.loop-run.rest.now) =
    subst IsUtf8 c.split_at.ensures.front c.in-Ok.ensures.cases.1 in
    let text : (string_bytes c.loop-run.text ++ take c.plain_len.result c.loop-run.rest.now)
    ++ encode_utf8 c.in-Some.code ≡ string_bytes c.push.new.self =
    ap (λ (t : List ℕ). t ++ encode_utf8 c.in-Some.code)
    (ap (λ (t : List ℕ). string_bytes c.loop-run.text ++ t)
    (sym c.split_at.ensures.front ∙ sym c.in-Ok.ensures.cases.0)
    ∙ sym c.in_ok-push_str.ensures.bytes)
    ∙ ap (λ (n : ℕ). string_bytes c.push_str.new.self ++ encode_utf8 n)
    (sym c.in-Some-from_u32.ensures.value.1) ∙ sym c.in_ok-push-in-Escape.ensures.bytes in
    let k =
    goes_on (string_bytes c.loop-run.text) c.loop-run.rest.now c.plain_len.result
    c.plain_len.ensures.value (string_at c.args.bytes.now) c.loop-run.invariant
    c.in-Escape.after.now c.in-Some.after.now c.in-Some.code u
    (rw (← c.split_at.ensures.back) c.in-Escape.ensures) (sym c.in-Some.ensures.value) in
    rw (← text) k
