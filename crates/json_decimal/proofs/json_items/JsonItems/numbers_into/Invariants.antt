use Rattle.std.proofs.Common.{take}
use Rattle.json_decimal.specs.Named.{plain}
use Rattle.json_decimal.proofs.NumberItems.{StartNumbers}
use Rattle.json_decimal.proofs.json_items.JsonItems.numbers_into.Given as goal

abbrev pub invariant-loop-i : goal.invariant-loop-i
invariant-loop-i l =
    StartNumbers l.self.bytes.now l.self.entries.now (take l.i (plain l.numbers)) l.i
