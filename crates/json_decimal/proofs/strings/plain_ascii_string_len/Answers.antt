use Rattle.std.proofs.Common.{refl, arith}
use Rattle.json_decimal.proofs.Shorts.{none_before, ends_here, past_block}
use Rattle.json_decimal.proofs.strings.plain_ascii_string_len.Goals as goal

pub loop-block-init : goal.loop-block-init
loop-block-init c = none_before c.args.bytes.now

pub overflow_add-result : goal.overflow_add-result
overflow_add-result c = omega (arith, c.loop-block.invariant.within, c.in-Some.ensures.cases.2)

pub returns-then-block-len-eq34 : goal.returns-then-block-len-eq34
returns-then-block-len-eq34 c =
    ends_here c.args.bytes.now c.loop-block.rest.now c.in-Some.block.now c.loop-block.count
    c.plain_ascii_len-len.result _ c.loop-block.invariant (omega (arith, c.in-Some.ensures.cases.2))
    c.in-Some.ensures.cases.0 c.plain_ascii_len-len.ensures c.if-len-lt-BLOCK.true
    c.if-block-len-eq34.true refl

pub overflow_add-count : goal.overflow_add-count
overflow_add-count c = omega (arith, c.loop-block.invariant.within, c.in-Some.ensures.cases.2)

pub loop-block-preserved : goal.loop-block-preserved
loop-block-preserved c =
    past_block c.args.bytes.now c.loop-block.rest.now c.in-Some.block.now c.in-Some.more.now
    c.loop-block.count c.plain_ascii_len-len.result c.loop-block.invariant c.in-Some.ensures.cases.0
    c.in-Some.ensures.cases.1 c.in-Some.ensures.cases.2 c.plain_ascii_len-len.ensures
    c.if-len-lt-BLOCK.false
