use Rattle.std.proofs.Common.{arith, rules, ◌≡◌, ◌∙◌, Some, sym, ap}
use Rattle.std.proofs.lemmas.Fmt.{parse-decimal}
use Rattle.std.specs.Cmp.Lexicographic.{other_text}
use Rattle.std.specs.Fmt.{decimal}
use Rattle.std.specs.Result.{result_ok}
use Rattle.session_script.proofs.number.number.Goals as goal

pub returns-in_err-number : goal.returns-in_err-number
returns-in_err-number c = rw c.from_residual.ensures (record {
  found = tt;
  spelled = λ n small e.
      let read = parse-decimal 32 n c.args.text.now c.parse.result small (omega arith)
      e c.parse.ensures.value.0 in
      let made : result_ok c.parse.result ≡ Some n = ap result_ok read in
      absurd (cc (c.in_err-number.ensures.value, made));
})

pub returns-then-eq : goal.returns-then-eq
returns-then-eq c = record {
  found = search rules;
  spelled = λ n small e.
      let read = parse-decimal 32 n c.args.text.now c.parse.result small (omega arith)
      e c.parse.ensures.value.0 in
      c.in_ok-number.ensures.value ∙ ap result_ok read;
}

pub returns-else-eq : goal.returns-else-eq
returns-else-eq c = record {
  found = tt;
  spelled = λ n small e.
      let read = parse-decimal 32 n c.args.text.now c.parse.result small (omega arith)
      e c.parse.ensures.value.0 in
      let made : Some c.in_ok-number.number ≡ Some n =
      c.in_ok-number.ensures.value ∙ ap result_ok read in
      let same : c.in_ok-number.number ≡ n = cc in
      absurd (other_text c.format.result.now c.args.text.now c.if-eq.ensures
      (c.format.ensures.text ∙ (ap decimal same ∙ sym e)));
}
