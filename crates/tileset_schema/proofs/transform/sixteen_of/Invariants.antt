use Rattle.std.proofs.Common.{◌≡◌, ◌++◌, drop, length}
use Rattle.json_decimal.specs.Named.{plain}
use Rattle.tileset_schema.specs.Numbers.{read_from}
use Rattle.tileset_schema.proofs.transform.sixteen_of.Given as goal

abbrev pub invariant-loop-i : goal.invariant-loop-i
invariant-loop-i l = record {
  told : l.numbers ++ read_from l.i (drop l.i (plain l.spellings)) ≡ read_from 0
      (plain l.spellings);
  count : length l.numbers ≡ l.i;
}
