use Rattle.std.proofs.Common.{refl}
use Rattle.json_decimal.proofs.Digits.{end_is}
use Rattle.json_decimal.proofs.short_numbers.digits_end.Goals as goal

pub returns-clause-end : goal.returns-clause-end
returns-clause-end c =
    (end_is c.args.bytes.now c.args.others c.args.from _ c.requires.block c.requires.from
    c.requires.mask refl).1

pub returns-clause-to : goal.returns-clause-to
returns-clause-to c =
    (end_is c.args.bytes.now c.args.others c.args.from _ c.requires.block c.requires.from
    c.requires.mask refl).0
