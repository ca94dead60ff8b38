use Rattle.std.proofs.Common.{◌≡◌, drop}
use Rattle.tree_expansion.specs.Expansion.{external_of}
use Rattle.tree_nodes.proofs.contents.has_external.Given as goal

abbrev pub invariant-loop-i : goal.invariant-loop-i
invariant-loop-i l =
    external_of (drop l.i l.own.parts.contents) ≡ external_of l.own.parts.contents
