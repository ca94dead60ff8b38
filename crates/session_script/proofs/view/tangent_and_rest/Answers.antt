use Rattle.session_script.specs.ViewTexts.{IsFractionOf32, text_of_fraction}
use Rattle.session_script.specs.Ascii.{colon}
use Rattle.session_script.proofs.Prefixes.{prefix-read, prefix-uncut, prefix-unread}
use Rattle.session_script.proofs.Fields.{fractions_without_colon}
use Rattle.session_script.proofs.view.tangent_and_rest.Goals as goal

pub returns-in_err-fraction : goal.returns-in_err-fraction
returns-in_err-fraction c =
    rw c.from_residual.ensures (prefix-uncut text_of_fraction IsFractionOf32 colon c.args.text.now
    fractions_without_colon c.in_err-fraction.ensures)

pub returns-in_err-tangent : goal.returns-in_err-tangent
returns-in_err-tangent c =
    rw c.from_residual-in_err-tangent.ensures
    (prefix-unread text_of_fraction IsFractionOf32 colon c.args.text.now _
    fractions_without_colon c.in_ok-fraction.ensures c.in_err-tangent.ensures)

pub returns : goal.returns
returns c = prefix-read text_of_fraction IsFractionOf32 colon c.args.text.now _
    c.in_ok-tangent.field-0 fractions_without_colon c.in_ok-fraction.ensures c.in_ok-tangent.ensures
