use Rattle.std.specs.Fmt.{decimal}
use Rattle.session_script.specs.ViewTexts.{IsNumberOf32}
use Rattle.session_script.specs.Ascii.{colon}
use Rattle.session_script.proofs.Prefixes.{prefix-read, prefix-uncut, prefix-unread}
use Rattle.session_script.proofs.Fields.{numbers_without_colon}
use Rattle.session_script.proofs.view.height_and_rest.Goals as goal

pub returns-in_err-height : goal.returns-in_err-height
returns-in_err-height c =
    rw c.from_residual.ensures (prefix-uncut decimal IsNumberOf32 colon c.args.text.now
    numbers_without_colon c.in_err-height.ensures)

pub returns-in_err-number : goal.returns-in_err-number
returns-in_err-number c =
    rw c.from_residual-in_err-number.ensures
    (prefix-unread decimal IsNumberOf32 colon c.args.text.now _ numbers_without_colon
    c.in_ok-height.ensures c.in_err-number.ensures)

pub returns : goal.returns
returns c = prefix-read decimal IsNumberOf32 colon c.args.text.now _ c.in_ok-number.field-0
    numbers_without_colon c.in_ok-height.ensures c.in_ok-number.ensures
