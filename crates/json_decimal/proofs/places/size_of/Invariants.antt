use Rattle.std.proofs.Common.{◌^◌, ◌-◌}
use Rattle.json_decimal.proofs.Wholes.{Scanned}
use Rattle.json_decimal.proofs.places.size_of.Given as goal

abbrev pub invariant-loop-byte : goal.invariant-loop-byte
invariant-loop-byte l =
    Scanned l.mantissa l.places l.byte-index l.left l.value (2 ^ 128 - 1) l.is_whole
