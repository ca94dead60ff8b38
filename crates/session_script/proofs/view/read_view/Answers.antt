use Rattle.std.proofs.Common.{◌≡◌, ◌∙◌, Some, None, lit<}
use Rattle.std.proofs.lemmas.Str.Pattern.{strip_prefix_char}
use Rattle.error_test.specs.Views.{ViewParts}
use Rattle.session_script.specs.ViewTexts.{IsWithinLimits, text_of_fields, text_of_view}
use Rattle.session_script.proofs.ReadViews.{read_is_view_of}
use Rattle.session_script.proofs.ViewFields.{behind_at_sign, not_none, text_of_view-is}
use Rattle.session_script.proofs.view.read_view.Goals as goal
use Rattle.session_script.proofs.view.read_view.Goals.{After-from_residual, After-view_of_fields}

-- a text without an at sign spells no view
unspelled : (c : After-from_residual) (v : ViewParts) → c.args.text.now ≡ text_of_view v → ⊥
unspelled c v e =
    strip_prefix_char 64 c.args.text.now None c.in_err-strip_prefix.ensures.cases (lit< tt)
    (text_of_fields v) (e ∙ text_of_view-is v)

-- a view that the text spells is read
spelled : (c : After-view_of_fields) (v : ViewParts) → IsWithinLimits v
    → c.args.text.now ≡ text_of_view v → c.view_of_fields.result ≡ Some v
spelled c v none e =
    let strip = strip_prefix_char 64 c.args.text.now (Some c.in_ok-strip_prefix.field-0)
    c.in_ok-strip_prefix.ensures.cases (lit< tt) in
    let rest : c.in_ok-strip_prefix.field-0.now ≡ text_of_fields v =
    cc (strip, e ∙ text_of_view-is v) in
    c.view_of_fields.ensures.read.spelled v none rest

pub returns-in_err-strip_prefix-clause-spelled : goal.returns-in_err-strip_prefix-clause-spelled
returns-in_err-strip_prefix-clause-spelled c = λ v none e. absurd (unspelled c v e)

pub returns-in_err-strip_prefix-clause-none : goal.returns-in_err-strip_prefix-clause-none
returns-in_err-strip_prefix-clause-none c = λ nothing v none e. unspelled c v e

pub returns-clause-found : goal.returns-clause-found
returns-clause-found c =
    let strip = strip_prefix_char 64 c.args.text.now (Some c.in_ok-strip_prefix.field-0)
    c.in_ok-strip_prefix.ensures.cases (lit< tt) in
    behind_at_sign c.args.text.now c.in_ok-strip_prefix.field-0.now c.view_of_fields.result strip
    c.view_of_fields.ensures.read.found

pub returns-clause-spelled : goal.returns-clause-spelled
returns-clause-spelled c = spelled c

pub returns-clause-none : goal.returns-clause-none
returns-clause-none c =
    λ nothing v none e. not_none c.view_of_fields.result v (spelled c v none e) nothing

pub returns-in_err-strip_prefix-clause-value : goal.returns-in_err-strip_prefix-clause-value
returns-in_err-strip_prefix-clause-value c =
    rw c.from_residual.ensures
    (read_is_view_of c.args.text.now None tt tt (λ nothing v within e. unspelled c v e))

pub returns-clause-value : goal.returns-clause-value
returns-clause-value c =
    let strip = strip_prefix_char 64 c.args.text.now (Some c.in_ok-strip_prefix.field-0)
    c.in_ok-strip_prefix.ensures.cases (lit< tt) in
    read_is_view_of c.args.text.now c.view_of_fields.result
    (behind_at_sign c.args.text.now c.in_ok-strip_prefix.field-0.now c.view_of_fields.result strip
    c.view_of_fields.ensures.read.found)
    c.view_of_fields.ensures.within
    (λ nothing v within e. not_none c.view_of_fields.result v (spelled c v within e) nothing)
