use Rattle.std.proofs.Common.{◌-◌, ap, take, length, replicate, rules, ◌≡◌, ◌∙◌, None, Some, sym}
use Rattle.std.proofs.Common.{subst, List}
use Rattle.volumes.specs.declared.plane.Plane.{Plane}
use Rattle.error_test.proofs.ViewLimits.{in_range, none_past_limit}
use Rattle.std.proofs.Math.Seq.{take-append_seam}
use Rattle.error_test.specs.Padding.{no_plane, padded}
use Rattle.error_test.specs.Views.{plane_limit, IsViewInRange, field_past_limit, view_parts}
use Rattle.error_test.proofs.view.View.new.Goals as goal

pub returns-in-Some-clause-within : goal.returns-in-Some-clause-within
returns-in-Some-clause-within c =
    let asked = view_parts c.args.eye c.args.height c.args.tan_over c.args.tan_under c.args.allowed
    c.args.planes.now in
    let found : Some c.in-Some.field ≡ field_past_limit asked =
    sym c.in-Some.is ∙ c.field_past_limit.ensures in (
      λ h. absurd (cc),
      λ fits. let none : field_past_limit asked ≡ None =
          none_past_limit asked fits in absurd (cc),
    )

pub invariant_of-result : goal.invariant_of-result
invariant_of-result c =
    let planes = c.args.planes.now in
    let asked = view_parts c.args.eye c.args.height c.args.tan_over c.args.tan_under c.args.allowed
    planes in
    let none : field_past_limit asked ≡ None = sym c.field_past_limit.ensures ∙ c.in_default.is in
    let fits : IsViewInRange asked = in_range asked none in
    let prefix : take (length planes) c.padded.result ≡ planes =
    ap (λ all. take (length planes) all) c.padded.ensures
    ∙ take-append_seam planes (replicate (plane_limit - length planes) no_plane) in
    let P : List Plane → Type 0 = λ all.
    IsViewInRange (view_parts c.args.eye c.args.height c.args.tan_over c.args.tan_under
    c.args.allowed all) in
    record {
      few = fits.plane_count;
      rest = ap padded prefix ∙ sym c.padded.ensures;
      in_range = subst P (sym prefix) fits;
    }

pub returns-clause-within : goal.returns-clause-within
returns-clause-within c =
    let asked = view_parts c.args.eye c.args.height c.args.tan_over c.args.tan_under c.args.allowed
    c.args.planes.now in
    let none : field_past_limit asked ≡ None = sym c.field_past_limit.ensures ∙ c.in_default.is in
    let fits : IsViewInRange asked = in_range asked none in
    (λ h. fits, λ h. search rules)
