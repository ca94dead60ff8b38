use Rattle.std.proofs.Common.{ℕ, ◌≡◌, ◌∙◌, Ok, ap, take, rules}
use Rattle.std.specs.Result.{result_ok}
use Rattle.error_test.specs.Views.{view_parts}
use Rattle.session_script.specs.ViewTexts.{text_of_fields}
use Rattle.session_script.proofs.ViewFields.{behind_eye, behind_height, behind_tangent, made}
use Rattle.session_script.proofs.ViewFields.{same_parts, text_of_fields-is, view_fits}
use Rattle.session_script.proofs.view.view_of_fields.Goals as goal

pub returns-in_err-eye-clause-read : goal.returns-in_err-eye-clause-read
returns-in_err-eye-clause-read c = rw c.from_residual.ensures (record {
  found = tt;
  spelled = λ v none e.
      absurd (c.in_err-eye.ensures.spelled v.eye (behind_eye v) (view_fits v none).eye
      (e ∙ text_of_fields-is v));
})

pub returns-in_err-height-clause-read : goal.returns-in_err-height-clause-read
returns-in_err-height-clause-read c = rw c.from_residual-in_err-height.ensures (record {
  found = tt;
  spelled = λ v none e.
      let fits = view_fits v none in
      let eye = c.in_ok-eye.ensures.spelled v.eye (behind_eye v) fits.eye (e ∙ text_of_fields-is v)
      in
      absurd (c.in_err-height.ensures.spelled v.height (behind_height v) fits.height eye.1);
})

pub returns-in_err-tan_over-clause-read : goal.returns-in_err-tan_over-clause-read
returns-in_err-tan_over-clause-read c = rw c.from_residual-in_err-tan_over.ensures (record {
  found = tt;
  spelled = λ v none e.
      let fits = view_fits v none in
      let eye = c.in_ok-eye.ensures.spelled v.eye (behind_eye v) fits.eye (e ∙ text_of_fields-is v)
      in
      let height = c.in_ok-height.ensures.spelled v.height (behind_height v) fits.height eye.1 in
      absurd (c.in_err-tan_over.ensures.spelled (v.tan_over, v.tan_under) (behind_tangent v)
      fits.tangent height.1);
})

pub returns-in_err-allowed-clause-read : goal.returns-in_err-allowed-clause-read
returns-in_err-allowed-clause-read c = rw c.from_residual-in_err-allowed.ensures (record {
  found = tt;
  spelled = λ v none e.
      let fits = view_fits v none in
      let eye = c.in_ok-eye.ensures.spelled v.eye (behind_eye v) fits.eye (e ∙ text_of_fields-is v)
      in
      let height = c.in_ok-height.ensures.spelled v.height (behind_height v) fits.height eye.1 in
      let tangent = c.in_ok-tan_over.ensures.spelled (v.tan_over, v.tan_under) (behind_tangent v)
      fits.tangent height.1 in
      absurd (c.in_err-allowed.ensures.spelled v.allowed v.planes fits.allowed fits.few fits.planes
      tangent.1);
})

pub returns-clause-read : goal.returns-clause-read
unfolding text_of_fields
returns-clause-read c = record {
  found = search rules;
  spelled = λ v none e.
      let fits = view_fits v none in
      let eye = c.in_ok-eye.ensures.spelled v.eye (behind_eye v) fits.eye (e ∙ text_of_fields-is v)
      in
      let height = c.in_ok-height.ensures.spelled v.height (behind_height v) fits.height eye.1 in
      let tangent = c.in_ok-tan_over.ensures.spelled (v.tan_over, v.tan_under) (behind_tangent v)
      fits.tangent height.1 in
      let last = c.in_ok-allowed.ensures.spelled v.allowed v.planes fits.allowed fits.few
      fits.planes tangent.1 in
      let over = ap (λ (p : ℕ × ℕ). p.0) tangent.0 in
      let under = ap (λ (p : ℕ × ℕ). p.1) tangent.0 in
      let planes = take c.in_ok-allowed.count c.allowed_and_planes.new.planes in
      let asked = view_parts c.in_ok-eye.eye c.in_ok-height.height c.in_ok-tan_over.tan_over
      c.in_ok-tan_over.tan_under c.in_ok-allowed.allowed planes in
      let same = same_parts c.in_ok-eye.eye c.in_ok-height.height c.in_ok-tan_over.tan_over
      c.in_ok-tan_over.tan_under c.in_ok-allowed.allowed planes v eye.0 height.0 over under
      last.0 last.1 in
      c.ok.ensures.value ∙ ap result_ok
      (made asked v (λ w. c.new.result ≡ Ok w) _ c.new.ensures.value same none);
}
