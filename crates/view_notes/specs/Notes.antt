-- What is noted of the visited nodes.
use Rattle.std.specs.Prelude.{ℕ, Bool, true, false, not, ◌&&◌, ◌||◌, ◌==◌, if◌then◌else◌, Option, List, filter, length, map}
use Rattle.error_test.specs.Views.{ViewParts}
use Rattle.expanded_tree.specs.Tree.{Tree, children_of}
use Rattle.cut_core.specs.Cut.{Holdings, adds, is_pending, is_ready, own_contents, wants}
use Rattle.view_notes.specs.declared.note.Note.{Note}
use Rattle.view_notes.specs.declared.note.Role.{Role}
use Rattle.view_notes.specs.declared.note.Role.TheVariants.{Pending, Leaf, Adding, Replacing}
use Rattle.cut_core.specs.Linked.{Linked, linked_visits}

-- ---- of a tree

abbrev pub role_of : ViewParts → Tree → Role
role_of view t =
    if is_pending t then Pending
    else if not (wants view t) then Leaf
    else if adds t then Adding
    else Replacing

-- how many children aren't ready
abbrev pub unready_children : ViewParts → Holdings → Tree → ℕ
unready_children view holdings t =
    if wants view t then length (filter (λ c. not (is_ready view holdings c)) (children_of t))
    else 0

abbrev pub note_of : ViewParts → Holdings → Linked → Note
note_of view holdings n = record {
  parent = n.parent;
  own = length (own_contents holdings n.tree);
  resident = length (filter holdings.resident (own_contents holdings n.tree));
  unready = unready_children view holdings n.tree;
  role = role_of view n.tree;
  ready = is_ready view holdings n.tree;
}

-- a note of each visited node, in preorder; none where the view visits more nodes than it may
abbrev pub root_notes : ViewParts → Holdings → Option Tree → List Note
root_notes view holdings root = map (note_of view holdings) (linked_visits view root)

-- ---- what a note tells

-- whether the node is ready, by its role, its own contents, how many are resident, and how many of
-- its children aren't ready
abbrev pub ready_by : Role → ℕ → ℕ → ℕ → Bool
ready_by Pending own resident unready = false
ready_by Leaf own resident unready = resident == own
ready_by Adding own resident unready = if own == 0 then unready == 0 else resident == own
ready_by Replacing own resident unready =
    not (own == 0) && resident == own || unready == 0

abbrev pub ready_of : Note → Bool
ready_of n = ready_by n.role n.own n.resident n.unready

-- whether the node keeps its own contents
abbrev pub kept_by : Role → ℕ → Bool
kept_by Pending unready = false
kept_by Leaf unready = true
kept_by Adding unready = true
kept_by Replacing unready = not (unready == 0)

abbrev pub is_kept : Note → Bool
is_kept n = kept_by n.role n.unready
