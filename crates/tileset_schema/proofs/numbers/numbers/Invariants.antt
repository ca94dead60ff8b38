use Rattle.std.proofs.Common.{◌≡◌, ◌-◌, take, length}
use Rattle.json_decimal.specs.Handles.{json_of, items_left}
use Rattle.json_decimal.specs.Named.{plain}
use Rattle.tileset_schema.specs.Numbers.{numbers}
use Rattle.tileset_schema.proofs.Counts.{filled}
use Rattle.tileset_schema.proofs.numbers.numbers.Given as goal

abbrev pub invariant-loop-i : goal.invariant-loop-i
invariant-loop-i l = record {
  filled : filled (take l.i (plain l.places)) (length l.places - l.i) (items_left l.rest)
      ≡ numbers (length l.fn.places) (json_of l.value);
  places : length l.places ≡ length l.fn.places;
}
