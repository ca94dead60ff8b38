use Rattle.std.proofs.Common.{◌≤◌, length, arith}
use Rattle.json_decimal.proofs.Digits.{whole_is, fraction_is}
use Rattle.json_decimal.proofs.short_numbers.short_number_len.Goals as goal

pub returns-else-is_e-clause-read : goal.returns-else-is_e-clause-read
returns-else-is_e-clause-read c =
    let room : 16 ≤ length c.args.bytes.now = c.in_ok-first_chunk.ensures.cases.enough in
    whole_is c.args.bytes.now c.minus_len-first.result c.digits_end-int_end.result (omega arith)
    c.minus_len-first.ensures.after
    (c.if-not-are_int.ensures (c.digits_end-int_end.ensures.end (omega arith)))
    c.if-bytes-int_end-ne46.true c.if-is_e.ensures

pub returns-clause-read : goal.returns-clause-read
returns-clause-read c =
    let room : 16 ≤ length c.args.bytes.now = c.in_ok-first_chunk.ensures.cases.enough in
    fraction_is c.args.bytes.now c.minus_len-first.result c.digits_end-int_end.result
    c.digits_end-end.result (omega arith) c.minus_len-first.ensures.after
    (c.if-not-are_int.ensures (c.digits_end-int_end.ensures.end (omega arith)))
    c.if-bytes-int_end-ne46.false (omega arith) (omega arith)
    (c.digits_end-end.ensures.end (omega arith)) c.if-is_e-2.ensures
