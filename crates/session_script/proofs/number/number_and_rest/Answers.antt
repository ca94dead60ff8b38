use Rattle.std.proofs.Common.{rules, w64}
use Rattle.std.proofs.lemmas.Int.{to_z-of_z}
use Rattle.std.specs.Prelude.{FitsSigned}
use Rattle.std.specs.Fmt.{signed_decimal}
use Rattle.session_script.specs.ViewTexts.{IsNumberOf64}
use Rattle.session_script.specs.Ascii.{comma}
use Rattle.session_script.proofs.Prefixes.{prefix-read, prefix-uncut, prefix-unread}
use Rattle.session_script.proofs.Fields.{numbers_without_comma}
use Rattle.session_script.proofs.number.number_and_rest.Goals as goal

pub returns-in_err-number : goal.returns-in_err-number
returns-in_err-number c =
    rw c.from_residual.ensures (prefix-uncut signed_decimal IsNumberOf64 comma c.args.text.now
    numbers_without_comma c.in_err-number.ensures)

pub returns-in_err-signed_number : goal.returns-in_err-signed_number
returns-in_err-signed_number c =
    rw c.from_residual-in_err-signed_number.ensures
    (prefix-unread signed_decimal IsNumberOf64 comma c.args.text.now _ numbers_without_comma
    c.in_ok-number.ensures c.in_err-signed_number.ensures)

pub returns : goal.returns
returns c =
    let fits : FitsSigned w64 c.in_ok-signed_number.field-0 = search rules in
    rw (to_z-of_z w64 c.in_ok-signed_number.field-0 fits)
    (prefix-read signed_decimal IsNumberOf64 comma c.args.text.now _
    c.in_ok-signed_number.field-0 numbers_without_comma c.in_ok-number.ensures
    c.in_ok-signed_number.ensures)
