use Rattle.std.proofs.Common.{sym, ◌∙◌}
use Rattle.tree_nodes.proofs.FoundTiles.{of_key}
use Rattle.tree_nodes.proofs.finding.find_own.Goals as goal

pub find_in-requires-clause-subtree : goal.find_in-requires-clause-subtree
find_in-requires-clause-subtree c =
    of_key c.args.store.now c.args.root.now c.args.at c.in-Some.key
    c.in-Some-subtree_number.number (sym c.in-Some.is ∙ c.in_ok-key.ensures)
    c.in-Some-subtree_number.ensures.read
