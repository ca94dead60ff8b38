use Rattle.tree_nodes.proofs.OwnContents.{Looking}
use Rattle.tree_nodes.proofs.contents.own_content.Given as goal

abbrev pub invariant-loop-i : goal.invariant-loop-i
invariant-loop-i l = Looking l.own.parts.contents l.number l.i l.left
