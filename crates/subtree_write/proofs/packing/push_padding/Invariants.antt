use Rattle.std.proofs.Common.{◌≡◌, ◌++◌, replicate}
use Rattle.subtree_write.proofs.packing.push_padding.Given as goal

abbrev pub invariant-loop : goal.invariant-loop
invariant-loop l = l.bytes.items ≡ l.initial.bytes.items ++ replicate l.counter l.filler
