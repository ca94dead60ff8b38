use Rattle.std.proofs.Common.{◌≡◌, map, take}
use Rattle.std.specs.List.{flat_map}
use Rattle.expanded_tree.specs.Tree.{key_of}
use Rattle.cut_core.specs.Noted.{measured_at}
use Rattle.cut_core.specs.Wants.{key_list, ranks_of}
use Rattle.view_notes.specs.Names.{names_of}
use Rattle.view_notes.specs.Visited.{first_note, visited_names}
use Rattle.view_notes.proofs.note_lists.NoteLists.from_visits.Given as goal

-- the visits before this one were added
abbrev pub invariant-loop-visit : goal.invariant-loop-visit
invariant-loop-visit g l =
    let s = g.T.TileTree.standing l.tree in
    let h = g.H.Holdings.holdings l.holdings in
    let before = take l.visit-index l.visits in
    record {
      notes : l.lists.notes.items ≡ map (first_note s h) before;
      names : names_of l.lists.names ≡ visited_names s before;
      ranks : l.lists.ranks.items ≡ map (λ v. ranks_of (measured_at s l.view v)) before;
      keys : l.lists.keys.items ≡ flat_map (λ v. key_list (key_of (s.node_tree v.node))) before;
    }
