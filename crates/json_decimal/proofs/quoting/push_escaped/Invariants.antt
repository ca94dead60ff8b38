use Rattle.std.proofs.Common.{◌≡◌, ◌++◌, length, take}
use Rattle.std.specs.List.{flat_map}
use Rattle.json_decimal.specs.Printed.{escaped}
use Rattle.json_decimal.proofs.quoting.push_escaped.Given as goal

abbrev pub invariant-loop-byte : goal.invariant-loop-byte
invariant-loop-byte l = record {
  told : l.into.items ++ flat_map escaped l.rest ≡ l.initial.into.items ++ flat_map escaped l.text;
  kept : take (length l.initial.into.items) l.into.items ≡ l.initial.into.items;
}

abbrev pub decreases-loop-byte : goal.decreases-loop-byte
decreases-loop-byte l = length l.rest
