use Rattle.std.proofs.Common.{take}
use Rattle.expanded_tree.specs.Tree.{addresses_of}
use Rattle.view_notes.specs.Names.{AddsNumbers}
use Rattle.view_notes.proofs.names.push_numbers.Given as goal

-- those of the contents before the i-th were added
abbrev pub invariant-loop-i : goal.invariant-loop-i
invariant-loop-i g l =
    let t = (g.T.TileTree.standing l.tree).node_tree l.node in
    AddsNumbers l.fn.addresses.keys l.fn.numbers.items l.addresses.keys l.numbers.items
    (take l.i (addresses_of t))
