use Rattle.std.proofs.Common.{take, arith}
use Rattle.json_decimal.specs.Named.{plain}
use Rattle.json_decimal.proofs.NumberItems.{none_yet, next_number, no_number_there, all_are, other_count}
use Rattle.json_decimal.proofs.json_items.JsonItems.numbers_into.Goals as goal

pub returns-then-self-numbers : goal.returns-then-self-numbers
returns-then-self-numbers c =
    other_count c.args.self.bytes.now c.args.self.entries.now _ c.if-self-numbers.true

pub loop-i-init : goal.loop-i-init
loop-i-init c = none_yet c.args.self.bytes.now c.args.self.entries.now

pub returns-in_default : goal.returns-in_default
returns-in_default c =
    no_number_there c.args.self.bytes.now c.args.self.entries.now (record { start = 0; extent = 0 })
    (take c.loop-i.i (plain c.loop-i.numbers)) c.loop-i.i _
    c.loop-i.invariant (omega arith) c.in_default.ensures

pub loop-i-preserved : goal.loop-i-preserved
loop-i-preserved c =
    next_number c.args.self.bytes.now c.args.self.entries.now (record { start = 0; extent = 0 })
    c.loop-i.numbers c.in-Some.spelling c.loop-i.i
    c.loop-i.invariant (omega arith) (omega arith) c.in-Some.ensures

pub returns : goal.returns
returns c =
    all_are c.args.self.bytes.now c.args.self.entries.now c.loop-i.numbers c.loop-i.i _
    c.loop-i.invariant c.if-self-numbers.false
    c.loop-i.auto.numbers c.loop-i-test.false
