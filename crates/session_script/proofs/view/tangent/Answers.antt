use Rattle.std.proofs.Common.{◌≡◌, rules, ℕ, Some, ap₂}
use Rattle.std.specs.Fmt.{decimal}
use Rattle.session_script.proofs.Fields.{numbers_without_slash}
use Rattle.session_script.proofs.view.tangent.Goals as goal

pub returns-in_err-over : goal.returns-in_err-over
returns-in_err-over c = rw c.from_residual.ensures (record {
  found = tt;
  spelled = λ f h e.
      absurd (c.in_err-over.ensures.spelled (decimal f.0) (decimal f.1)
      (numbers_without_slash.each f.0 h.over) e);
})

pub returns-in_err-number : goal.returns-in_err-number
returns-in_err-number c = rw c.from_residual-in_err-number.ensures (record {
  found = tt;
  spelled = λ f h e.
      let cut = c.in_ok-over.ensures.spelled (decimal f.0) (decimal f.1)
      (numbers_without_slash.each f.0 h.over) e in
      let none = c.in_err-number.ensures.spelled f.0 h.over cut.0 in
      absurd (cc);
})

pub returns-in_err-number-2 : goal.returns-in_err-number-2
returns-in_err-number-2 c = rw c.from_residual-in_err-number-2.ensures (record {
  found = tt;
  spelled = λ f h e.
      let cut = c.in_ok-over.ensures.spelled (decimal f.0) (decimal f.1)
      (numbers_without_slash.each f.0 h.over) e in
      let none = c.in_err-number-2.ensures.spelled f.1 h.under cut.1 in
      absurd (cc);
})

pub returns : goal.returns
returns c = record {
  found = search rules;
  spelled = λ f h e.
      let cut = c.in_ok-over.ensures.spelled (decimal f.0) (decimal f.1)
      (numbers_without_slash.each f.0 h.over) e in
      let first = c.in_ok-number.ensures.spelled f.0 h.over cut.0 in
      let second = c.in_ok-number-2.ensures.spelled f.1 h.under cut.1 in
      let over : c.in_ok-number.field-0 ≡ f.0 = cc in
      let under : c.in_ok-number-2.field-0 ≡ f.1 = cc in
      ap₂ (λ (m n : ℕ). Some (m, n)) over under;
}
