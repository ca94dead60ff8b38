use Rattle.std.proofs.Common.{rules, ◌≡◌, ◌∙◌, ◌<◌, ◌^◌, Some, sym, ap, w64}
use Rattle.std.proofs.lemmas.Fmt.{parse-signed_decimal}
use Rattle.std.proofs.lemmas.Int.{to_z-of_z}
use Rattle.std.specs.Cmp.Lexicographic.{other_text}
use Rattle.std.specs.Fmt.{signed_decimal}
use Rattle.std.specs.Result.{result_ok}
use lib.Signed.{mag}
use mir.Val.{to_z, of_z}
use Rattle.session_script.proofs.number.signed_number.Goals as goal

pub returns-in_err-number : goal.returns-in_err-number
returns-in_err-number c = rw c.from_residual.ensures (record {
  found = tt;
  spelled = λ z fits e.
      let small : mag z < 2 ^ 63 = fits.sfits in
      let read = parse-signed_decimal w64 z c.args.text.now c.parse.result fits small e
      c.parse.ensures.value.0 in
      let made : result_ok c.parse.result ≡ Some z = ap result_ok read in
      absurd (cc (c.in_err-number.ensures.value, made));
})

pub returns-then-eq : goal.returns-then-eq
returns-then-eq c = record {
  found = search rules;
  spelled = λ z fits e.
      let small : mag z < 2 ^ 63 = fits.sfits in
      let read = parse-signed_decimal w64 z c.args.text.now c.parse.result fits small e
      c.parse.ensures.value.0 in
      let made : Some c.in_ok-number.number ≡ Some z =
      c.in_ok-number.ensures.value ∙ ap result_ok read in
      let same : c.in_ok-number.number ≡ z = cc in
      rw same (ap (λ n. Some n) (to_z-of_z w64 z fits));
}

pub returns-else-eq : goal.returns-else-eq
returns-else-eq c = record {
  found = tt;
  spelled = λ z fits e.
      let small : mag z < 2 ^ 63 = fits.sfits in
      let read = parse-signed_decimal w64 z c.args.text.now c.parse.result fits small e
      c.parse.ensures.value.0 in
      let made : Some c.in_ok-number.number ≡ Some z =
      c.in_ok-number.ensures.value ∙ ap result_ok read in
      let same : c.in_ok-number.number ≡ z = cc in
      absurd (other_text c.format.result.now c.args.text.now c.if-eq.ensures
      (c.format.ensures.text ∙ (ap (λ n. signed_decimal (to_z w64 (of_z w64 n))) same
      ∙ (ap signed_decimal (to_z-of_z w64 z fits) ∙ sym e))));
}
