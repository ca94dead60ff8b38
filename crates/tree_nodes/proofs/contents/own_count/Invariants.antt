use Rattle.std.proofs.Common.{◌≡◌, ◌+◌, drop, length}
use Rattle.tree_expansion.specs.Expansion.{own_of}
use Rattle.tree_nodes.proofs.contents.own_count.Given as goal

abbrev pub invariant-loop-i : goal.invariant-loop-i
invariant-loop-i l =
    l.count + length (own_of (drop l.i l.own.parts.contents)) ≡ length (own_of l.own.parts.contents)
