use Rattle.std.proofs.Common.{arith}
use Rattle.json_decimal.proofs.Shorts.{none_before, ends_here}
use Rattle.json_decimal.proofs.strings.short_string_len.Goals as goal

pub returns-then-block-len-eq34 : goal.returns-then-block-len-eq34
returns-then-block-len-eq34 c =
    let chunk = c.in_ok-block.ensures.cases in
    ends_here c.args.bytes.now c.args.bytes.now c.in_ok-block.block.now 0
    c.plain_ascii_len-len.result c.plain_ascii_len-len.result (none_before c.args.bytes.now)
    chunk.enough chunk.same c.plain_ascii_len-len.ensures c.if-len-lt-BLOCK.true
    c.if-block-len-eq34.true (omega arith)
