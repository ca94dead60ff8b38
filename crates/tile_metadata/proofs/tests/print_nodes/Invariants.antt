use Rattle.std.proofs.Common.{◌≡◌}
use Rattle.tile_metadata.proofs.tests.print_nodes.Given as goal

-- the tree is the same
abbrev pub invariant-loop-node : goal.invariant-loop-node
invariant-loop-node l = record { tree : l.lines.tree ≡ l.initial.lines.tree }
