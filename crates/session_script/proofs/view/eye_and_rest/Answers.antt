use Rattle.session_script.specs.ViewTexts.{IsPointOf64, text_of_point}
use Rattle.session_script.specs.Ascii.{colon}
use Rattle.session_script.proofs.Prefixes.{prefix-read, prefix-uncut, prefix-unread}
use Rattle.session_script.proofs.Fields.{points_without_colon}
use Rattle.session_script.proofs.view.eye_and_rest.Goals as goal

pub returns-in_err-eye : goal.returns-in_err-eye
returns-in_err-eye c =
    rw c.from_residual.ensures (prefix-uncut text_of_point IsPointOf64 colon c.args.text.now
    points_without_colon c.in_err-eye.ensures)

pub returns-in_err-point : goal.returns-in_err-point
returns-in_err-point c =
    rw c.from_residual-in_err-point.ensures
    (prefix-unread text_of_point IsPointOf64 colon c.args.text.now _ points_without_colon
    c.in_ok-eye.ensures c.in_err-point.ensures)

pub returns : goal.returns
returns c = prefix-read text_of_point IsPointOf64 colon c.args.text.now _ c.in_ok-point.field-0
    points_without_colon c.in_ok-eye.ensures c.in_ok-point.ensures
