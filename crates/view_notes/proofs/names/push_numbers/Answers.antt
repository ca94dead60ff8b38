use Rattle.std.proofs.Common.{refl}
use Rattle.cut_core.proofs.Lists.{taken}
use Rattle.view_notes.proofs.Numbering.{adds_addresses, adds_none, adds_number}
use Rattle.view_notes.proofs.names.push_numbers.Goals as goal

pub loop-i-init : goal.loop-i-init
loop-i-init g c = adds_none c.args.addresses.now.keys c.args.numbers.now.items

pub returns-in_err-number-clause-adds : goal.returns-in_err-number-clause-adds
returns-in_err-number-clause-adds g c =
    let grown = c.number_for.ensures.grows in
    adds_addresses _ _ _ _ _ _ grown.0 grown.1 c.loop-i.invariant _ refl

pub returns-in_err-push-clause-adds : goal.returns-in_err-push-clause-adds
returns-in_err-push-clause-adds g c =
    let grown = c.number_for.ensures.grows in
    adds_addresses _ _ _ _ _ _ grown.0 grown.1 c.loop-i.invariant _ c.in_err-push.ensures.items

pub loop-i-preserved : goal.loop-i-preserved
loop-i-preserved g c =
    let grown = c.number_for.ensures.grows in
    adds_number _ _ _ _ _ _ grown.0 grown.1 c.loop-i.invariant _ c.in_ok-number.number
    c.content.result.now _ c.in_ok-push.ensures.items c.in_ok-number.ensures.number
    c.in_ok-number.ensures.address
    (taken _ c.loop-i.i c.content.result.now c.content.ensures)
