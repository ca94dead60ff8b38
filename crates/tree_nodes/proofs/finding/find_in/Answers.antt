use Rattle.tree_nodes.proofs.FoundTiles.{bit_set, bit_unset, parts_of_root}
use Rattle.tree_nodes.proofs.finding.find_in.Goals as goal

pub has_tile-requires-clause-subtree : goal.has_tile-requires-clause-subtree
has_tile-requires-clause-subtree c =
    parts_of_root c.args.store.now c.args.root.now c.args.at c.args.number c.requires.subtree
    c.subtree_in.result.now (c.subtree_in.ensures c.requires.subtree)

pub returns-then-has_tile : goal.returns-then-has_tile
returns-then-has_tile c =
    bit_set c.args.store.now c.args.root.now c.args.at c.args.number c.requires.subtree
    c.subtree_in.result.now (c.subtree_in.ensures c.requires.subtree) c.has_tile.result
    c.has_tile.ensures c.if-has_tile.true

pub returns : goal.returns
returns c =
    bit_unset c.args.store.now c.args.root.now c.args.at c.args.number c.requires.subtree
    c.subtree_in.result.now (c.subtree_in.ensures c.requires.subtree) c.has_tile.result
    c.has_tile.ensures c.if-has_tile.false
