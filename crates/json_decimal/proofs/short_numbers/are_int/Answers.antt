use Rattle.std.proofs.Common.{◌≡◌, ◌+◌, ◌==◌, get_or, not, false, ap, arith}
use Rattle.std.proofs.lemmas.Bool.{eqb-true, OnTrue_from}
use Rattle.json_decimal.specs.Ascii.{digit_zero}
use Rattle.json_decimal.proofs.Digits.{int_is}
use Rattle.json_decimal.proofs.short_numbers.are_int.Goals as goal

pub returns-then-end-from : goal.returns-then-end-from
returns-then-end-from c =
    OnTrue_from (c.args.end == c.args.from + 1) _
    (λ t. int_is c.args.bytes.now c.args.from c.args.end (omega arith) c.requires.end
    (λ _. eqb-true c.args.end (c.args.from + 1) t))

pub returns-else-end-from : goal.returns-else-end-from
returns-else-end-from c =
    OnTrue_from (not (get_or c.args.bytes.now c.args.from 0 == digit_zero)) _
    (λ t. int_is c.args.bytes.now c.args.from c.args.end c.if-from-end.true c.requires.end
    (λ z. let no : not (get_or c.args.bytes.now c.args.from 0 == digit_zero) ≡ false = ap not z in
    cc))
