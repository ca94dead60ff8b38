-- What is noted of the nodes that a walk has visited.
use Rattle.std.specs.Prelude.{ℕ, true, not, if◌then◌else◌, Bool, List, [], None, filter, length, map}
use Rattle.std.specs.List.{flat_map}
use Rattle.error_test.specs.Views.{ViewParts}
use Rattle.expanded_tree.specs.Standing.{Standing}
use Rattle.expanded_tree.specs.Tree.{Tree, addresses_of, key_of}
use Rattle.cut_core.specs.declared.findings.Visit.{Visit}
use Rattle.cut_core.specs.Cut.{Holdings, adds, from_root, is_pending, own_contents}
use Rattle.cut_core.specs.Distances.{measured_visits}
use Rattle.cut_core.specs.Linked.{linked_nodes}
use Rattle.cut_core.specs.Links.{LinksMore}
use Rattle.cut_core.specs.Noted.{measured_at}
use Rattle.cut_core.specs.Visits.{IsWithinLimit}
use Rattle.cut_core.specs.Walk.{NotesMore}
use Rattle.cut_core.specs.Wants.{key_list, ranks_of}
use Rattle.view_notes.specs.declared.note.Note.{Note}
use Rattle.view_notes.specs.declared.note.Role.{Role}
use Rattle.view_notes.specs.declared.note.Role.TheVariants.{Pending, Leaf, Adding, Replacing}
use Rattle.view_notes.specs.Follows.{Noted}

-- these are the visits of the view over the tree
pub record AreVisitsOf (s : Standing) (view : ViewParts) (holdings : Holdings)
    (visits : List Visit) : Type 0 where
  pub within : IsWithinLimit view s.tree
  pub notes : NotesMore s view holdings [] visits (measured_visits view s.tree)
  pub links : LinksMore view [] visits (from_root (linked_nodes view None 0) s.tree)

-- by whether a tile wants its children
abbrev pub role_where : Bool → Tree → Role
role_where wanted t =
    if is_pending t then Pending
    else if not wanted then Leaf
    else if adds t then Adding
    else Replacing

-- the note of a visited node, as if it and its children were ready
abbrev pub first_note : Standing → Holdings → Visit → Note
first_note s holdings v = record {
  parent = v.parent;
  own = length (own_contents holdings (s.node_tree v.node));
  resident = length (filter holdings.resident (own_contents holdings (s.node_tree v.node)));
  unready = 0;
  role = role_where v.wants (s.node_tree v.node);
  ready = true;
}

abbrev pub visited_names : Standing → List Visit → List (List (List ℕ))
visited_names s visits = map (λ v. addresses_of (s.node_tree v.node)) visits

-- what is noted of visited nodes, with these notes
abbrev pub noted_visits : Standing → ViewParts → List Visit → List Note → Noted
noted_visits s view visits notes = record {
  notes = notes;
  names = visited_names s visits;
  ranks = map (λ v. ranks_of (measured_at s view v)) visits;
  keys = flat_map (λ v. key_list (key_of (s.node_tree v.node))) visits;
}
