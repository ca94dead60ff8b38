-- What is noted of the nodes that a walk has visited are the notes of the view.
use Rattle.std.proofs.Common.{ℕ, ◌≡◌, ◌+◌, ◌≤◌, Bool, true, false, ◌&&◌, Option, None, List, [], ◌∷◌, length, map, refl, sym, ◌∙◌, ap, subst, arith}
use Rattle.std.specs.Prelude.{All, if◌then◌else◌}
use Rattle.std.specs.List.{filter, flat_map}
use Rattle.std.proofs.lemmas.Bool.{lt-leb}
use Rattle.std.proofs.lemmas.List.{length-map}
use Rattle.std.proofs.lemmas.List.Folds.{flat_map-map}
use Rattle.error_test.specs.Views.{ViewParts}
use Rattle.expanded_tree.specs.Standing.{Standing}
use Rattle.expanded_tree.specs.Tree.{Tree, addresses_of, key_of}
use Rattle.cut_core.specs.declared.findings.Visit.{Visit}
use Rattle.cut_core.specs.declared.findings.TheConstants.{VISITED_LIMIT}
use Rattle.cut_core.specs.Cut.{Holdings, from_root, own_contents}
use Rattle.cut_core.specs.Distances.{Measured, measured_visits, trees_in}
use Rattle.cut_core.specs.Linked.{Linked, linked_nodes}
use Rattle.cut_core.specs.Links.{Link, link_in, link_of, links_in}
use Rattle.cut_core.specs.Noted.{IsNoteValid, measured_at}
use Rattle.cut_core.specs.Visits.{VisitsTooMany, visits}
use Rattle.cut_core.specs.Walk as walk
use Rattle.cut_core.specs.Walk.{distance_by}
use Rattle.cut_core.specs.Wants.{key_list, ranks_of}
use Rattle.cut_core.proofs.Distances.{trees_visited}
use Rattle.cut_core.proofs.Notes.{AreNotesOf-valid}
use Rattle.cut_core.proofs.Wanting.{unless_within}
use Rattle.view_notes.specs.declared.note.Note.{Note}
use Rattle.view_notes.specs.Agreement.{Agree, ArePlaced, IsBefore, SameFixed, fixed, is_at, unready_among}
use Rattle.view_notes.specs.Follows.{AreNotesOf, nothing_noted}
use Rattle.view_notes.specs.Notes.{note_of, root_notes}
use Rattle.view_notes.specs.Visited.{AreVisitsOf, first_note, noted_visits, role_where}
use Rattle.view_notes.proofs.TreeNotes.{map-map, root_agrees, trees_root, unique}

abbrev one : Bool → ℕ
one b = if b then 1 else 0

none_and : (b : Bool) → (b && false) ≡ false
none_and true = refl
none_and false = refl

module _ (s : Standing) (view : ViewParts) (holdings : Holdings) where
  abbrev tree_at : Visit → Tree
  tree_at v = s.node_tree v.node

  abbrev firsts : List Visit → List Note
  firsts vs = map (first_note s holdings) vs

  measured_are : (vs : List Visit) (ms : List Measured) → walk.AreNotesOf s view holdings vs ms
      → map (measured_at s view) vs ≡ ms
  measured_are [] [] h = refl
  measured_are (v ∷ vs) (m ∷ ms) h =
      let here : Tree → ℕ → Measured = λ t d. record { tree = t; distance = d } in
      ap (λ t. here t (distance_by s view v.measured_by) ∷ map (measured_at s view) vs)
      h.0.stands.tree
      ∙ ap (λ d. here m.tree d ∷ map (measured_at s view) vs) h.0.distance
      ∙ ap (λ ns. m ∷ ns) (measured_are vs ms h.1)
  measured_are [] (m ∷ ms) h = absurd h
  measured_are (v ∷ vs) [] h = absurd h

  -- ---- what the notes say beside readiness

  told : Link → Tree → Note
  told k t = record {
    parent = k.parent;
    own = length (own_contents holdings t);
    resident = length (filter holdings.resident (own_contents holdings t));
    unready = 0;
    role = role_where k.wants t;
    ready = false;
  }

  same_fixed : (vs : List Visit) (ns : List Linked) → links_in vs ≡ map (link_of view) ns
      → map tree_at vs ≡ map (λ n. n.tree) ns
      → map fixed (firsts vs) ≡ map fixed (map (note_of view holdings) ns)
  unfolding told
  same_fixed [] [] e f = refl
  same_fixed [] (n ∷ ns) e f = cc
  same_fixed (v ∷ vs) [] e f = cc
  same_fixed (v ∷ vs) (n ∷ ns) e f =
      let l : link_in v ≡ link_of view n = cc in
      let ls : links_in vs ≡ map (link_of view) ns = cc in
      let t : tree_at v ≡ n.tree = cc in
      let ts : map tree_at vs ≡ map (λ n. n.tree) ns = cc in
      ap (λ k. told k (tree_at v) ∷ map fixed (firsts vs)) l
      ∙ ap (λ u. told (link_of view n) u ∷ map fixed (firsts vs)) t
      ∙ ap (λ xs. told (link_of view n) n.tree ∷ xs) (same_fixed vs ns ls ts)

  -- ---- as if each were ready, the notes are placed

  none_unready : (i : ℕ) (vs : List Visit) → unready_among i (firsts vs) ≡ 0
  none_unready i [] = refl
  none_unready i (v ∷ vs) =
      let none : one (is_at i v.parent && false) ≡ 0 = ap one (none_and (is_at i v.parent)) in
      omega (arith, none, none_unready i vs)

  first_placed : (at : ℕ) (vs : List Visit) (ms : List Note)
      → map fixed (firsts vs) ≡ map fixed ms → ArePlaced at ms → ArePlaced at (firsts vs)
  first_placed at [] ms e h = tt
  first_placed at (v ∷ vs) [] e h = cc
  first_placed at (v ∷ vs) (m ∷ ms) e h =
      let first : fixed (first_note s holdings v) ≡ fixed m = cc in
      let rest : map fixed (firsts vs) ≡ map fixed ms = cc in
      let above : v.parent ≡ m.parent = ap (λ (n : Note). n.parent) first in (
        subst (λ p. IsBefore p at) (sym above) h.0,
        sym (none_unready at vs),
        first_placed (at + 1) vs ms rest h.2,
      )

  -- ---- the visits of a tree

  module _ (vs : List Visit) (are : AreVisitsOf s view holdings vs) where
    abbrev nodes : List Linked
    nodes = from_root (linked_nodes view None 0) s.tree

    measures : map (measured_at s view) vs ≡ measured_visits view s.tree
    measures =
        ap (map (measured_at s view)) are.notes.added
        ∙ measured_are are.notes.more (measured_visits view s.tree) are.notes.notes

    trees : map tree_at vs ≡ visits view s.tree
    trees =
        map-map (λ (m : Measured). m.tree) (measured_at s view) vs ∙ ap trees_in measures
        ∙ trees_visited view s.tree

    all_fixed : map fixed (firsts vs) ≡ map fixed (root_notes view holdings s.tree)
    all_fixed =
        same_fixed vs nodes are.links (trees ∙ sym (trees_root view s.tree))
        ∙ ap (λ ns. map fixed (map (note_of view holdings) ns))
        (sym (unless_within view s.tree nodes are.within))

    pub visits_valid : All (λ v. IsNoteValid s v) vs
    visits_valid =
        subst (λ ws. All (λ v. IsNoteValid s v) ws) (sym are.notes.added)
        (AreNotesOf-valid view holdings s are.notes.more (measured_visits view s.tree)
        are.notes.notes)

    pub firsts_placed : ArePlaced 0 (firsts vs)
    firsts_placed = first_placed 0 vs (root_notes view holdings s.tree) all_fixed
        (root_agrees view holdings s.tree).placed

    pub firsts_few : length (firsts vs) ≤ VISITED_LIMIT
    firsts_few =
        omega (
          arith,
          length-map vs (first_note s holdings),
          length-map vs tree_at,
          ap length trees,
          are.within,
        )

    pub visits_noted : (ms : List Note) → SameFixed (firsts vs) ms → Agree ms
        → AreNotesOf (noted_visits s view vs ms) view holdings s.tree
    visits_noted ms e agree =
        let noted = trees ∙ sym (unless_within view s.tree (visits view s.tree) are.within) in
        record {
          notes =
              unique (root_notes view holdings s.tree) ms (e ∙ all_fixed)
              (root_agrees view holdings s.tree) agree;
          names = map-map addresses_of tree_at vs ∙ ap (map addresses_of) noted;
          ranks =
              map-map ranks_of (measured_at s view) vs ∙ ap (map ranks_of) measures
              ∙ sym (unless_within view s.tree (map ranks_of (measured_visits view s.tree))
              are.within);
          keys =
              sym (flat_map-map (λ t. key_list (key_of t)) tree_at vs)
              ∙ ap (flat_map (λ t. key_list (key_of t))) noted;
        }

-- the notes of a view that visits too many nodes
pub none_noted : (view : ViewParts) (holdings : Holdings) (root : Option Tree)
    → VisitsTooMany view root
    → AreNotesOf nothing_noted view holdings root
none_noted view holdings root large =
    let none = lt-leb (length (visits view root)) VISITED_LIMIT large in
    record {
      notes =
          sym (ap (λ (b : Bool). map (note_of view holdings)
          (if b then from_root (linked_nodes view None 0) root else [])) none);
      names =
          sym (ap (λ (b : Bool). map addresses_of (if b then visits view root else [])) none);
      ranks =
          sym (ap (λ (b : Bool). if b then map ranks_of (measured_visits view root) else []) none);
      keys =
          sym (ap (λ (b : Bool). flat_map (λ t. key_list (key_of t))
          (if b then visits view root else [])) none);
    }
