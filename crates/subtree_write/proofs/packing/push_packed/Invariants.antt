use Rattle.std.proofs.Common.{◌≡◌, ◌++◌, map}
use Rattle.std.specs.List.{range_with_len}
use Rattle.subtree_write.proofs.Packs.{byte_at}
use Rattle.subtree_write.proofs.packing.push_packed.Given as goal

abbrev pub invariant-loop-i : goal.invariant-loop-i
invariant-loop-i l =
    l.bytes.items ≡ l.initial.bytes.items ++ map (byte_at l.bits) (range_with_len 0 l.i)
