use Rattle.std.proofs.Common.{◌≡◌, ◌≤◌, filter, length, take}
use Rattle.expanded_tree.specs.Tree.{addresses_of}
use Rattle.cut_core.proofs.Owns.{present}
use Rattle.view_notes.proofs.note_lists.count_own.Given as goal

-- those of the contents before the i-th were counted
abbrev pub invariant-loop-i : goal.invariant-loop-i
invariant-loop-i g l =
    let h = g.H.Holdings.holdings l.holdings in
    let before = present h (take l.i (addresses_of
    ((g.T.TileTree.standing l.tree).node_tree l.node))) in
    record {
      own : l.own ≡ length before;
      resident : l.resident ≡ length (filter h.resident before);
      few : l.own ≤ l.i;
      fewer : l.resident ≤ l.own;
    }
