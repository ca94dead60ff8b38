-- The notes of a tree agree with one another, and no others do that say the same beside readiness.
use Rattle.std.proofs.Common.{ℕ, ◌≡◌, ◌+◌, ◌<◌, ◌≤◌, Bool, true, false, not, ◌&&◌, ◌||◌, Option, Some, None, List, [], ◌∷◌, ◌++◌, length, map, refl, sym, ◌∙◌, ap, subst, arith}
use Rattle.std.specs.Prelude.{◌==◌, if◌then◌else◌, nat_le}
use Rattle.std.specs.List.{list_all, filter}
use Rattle.std.proofs.lemmas.Bool.{eq-eqb, ne_eqb, eqb-true, leb-true}
use Rattle.std.proofs.lemmas.List.{length-map, map-append}
use Rattle.error_test.specs.Views.{ViewParts}
use Rattle.expanded_tree.specs.Tree.{Tree, tile, pending, Trees, no_trees, more_trees, list_of, addresses_of, children_of}
use Rattle.cut_core.specs.declared.findings.TheConstants.{VISITED_LIMIT}
use Rattle.cut_core.specs.Cut.{Holdings, adds, from_root, has_own, is_culled, is_ready, lacks_own, own_contents, wants}
use Rattle.cut_core.specs.Visits.{all_visited_nodes, visited_nodes, visits}
use Rattle.cut_core.proofs.CutSteps.{ready_adding, ready_alone, ready_culled, ready_replacing}
use Rattle.view_notes.specs.declared.note.Note.{Note}
use Rattle.view_notes.specs.declared.note.Role.{Role}
use Rattle.view_notes.specs.declared.note.Role.TheVariants.{Leaf, Adding, Replacing}
use Rattle.view_notes.specs.Agreement.{Agree, ArePlaced, AreReadBut, IsBefore, SameFixed, fixed, is_at, unready_among}
use Rattle.cut_core.specs.Linked.{Linked, all_linked_nodes, linked, linked_nodes, linked_visits}
use Rattle.view_notes.specs.Notes.{note_of, ready_by, ready_of, root_notes}
use Rattle.view_notes.specs.Views.{names, noted}
use Rattle.view_notes.proofs.Counting.{all_count, count_no, count_yes, empty_length, filter_few, none_count}
use Rattle.view_notes.proofs.Unready.{among_append, one_by, one_here, one_unless}

-- ---- lists of notes

placed_append : (at : ℕ) (ns ms : List Note) → ArePlaced at ns
    → ((k : ℕ) → at ≤ k → k < at + length ns → unready_among k ms ≡ 0)
    → ArePlaced (at + length ns) ms → ArePlaced at (ns ++ ms)
placed_append at [] ms h none k =
    let same : at + 0 ≡ at = omega arith in subst (λ i. ArePlaced i ms) same k
placed_append at (n ∷ ns) ms h none k =
    let up : at + length (n ∷ ns) ≡ (at + 1) + length ns = omega arith in
    let counts : n.unready ≡ unready_among at (ns ++ ms) =
    omega (arith, h.1, among_append at ns ms, none at (omega arith) (omega arith)) in (
      h.0,
      counts,
      placed_append (at + 1) ns ms h.2
          (λ i le lt. none i (omega (arith, le)) (omega (arith, lt)))
          (subst (λ i. ArePlaced i ms) up k),
    )

read_append : (at : ℕ) (ns ms : List Note) → AreReadBut (λ i. false) at ns
    → AreReadBut (λ i. false) (at + length ns) ms → AreReadBut (λ i. false) at (ns ++ ms)
read_append at [] ms h k =
    let same : at + 0 ≡ at = omega arith in subst (λ i. AreReadBut (λ i. false) i ms) same k
read_append at (n ∷ ns) ms h k =
    let up : at + length (n ∷ ns) ≡ (at + 1) + length ns = omega arith in
    (h.0, read_append (at + 1) ns ms h.1 (subst (λ i. AreReadBut (λ i. false) i ms) up k))

count_child : {A : Type 0} (p : A → Bool) (x : A) (xs : List A)
    → length (filter (λ y. not (p y)) (x ∷ xs))
    ≡ one_unless (p x) + length (filter (λ y. not (p y)) xs)
count_child p x xs = by (p x) refl
  where
    by : (b : Bool) → p x ≡ b → length (filter (λ y. not (p y)) (x ∷ xs))
        ≡ one_unless (p x) + length (filter (λ y. not (p y)) xs)
    by true e =
        let none : one_unless (p x) ≡ 0 = ap one_unless e in
        omega (arith, none, count_no (λ y. not (p y)) x xs (ap not e))
    by false e =
        let some : one_unless (p x) ≡ 1 = ap one_unless e in
        omega (arith, some, count_yes (λ y. not (p y)) x xs (ap not e))

not_at : (p : Option ℕ) (at k : ℕ) → IsBefore p at → at ≤ k → is_at k p ≡ false
not_at None at k h le = refl
not_at (Some q) at k h le = ne_eqb q k (λ z. absurd (omega (arith, h, le, z)))

later : (p : Option ℕ) (at more : ℕ) → IsBefore p at → IsBefore p (at + more)
later None at more h = tt
later (Some q) at more h = omega (arith, h)

-- ---- the linked nodes

module _ (view : ViewParts) where
  abbrev trees : List Linked → List Tree
  trees ns = map (λ n. n.tree) ns

  trees_tile : (p : Option ℕ) (t : Tree) (below : List Linked) (under : List Tree) (c w : Bool)
      → trees below ≡ under
      → trees (if c then [] else (if w then linked p t ∷ below else linked p t ∷ []))
      ≡ (if c then [] else (if w then t ∷ under else t ∷ []))
  trees_tile p t below under true w e = refl
  trees_tile p t below under false true e = ap (λ ts. t ∷ ts) e
  trees_tile p t below under false false e = refl

  trees_pending : (p : Option ℕ) (t : Tree) (c : Bool)
      → trees (if c then [] else linked p t ∷ []) ≡ (if c then [] else t ∷ [])
  trees_pending p t true = refl
  trees_pending p t false = refl

  mutual
    trees_linked : (p : Option ℕ) (at : ℕ) (t : Tree)
        → trees (linked_nodes view p at t) ≡ visited_nodes view t
    trees_linked p at (tile parts children) =
        let t : Tree = tile parts children in
        trees_tile p t (all_linked_nodes view (Some at) (at + 1) children)
        (all_visited_nodes view children) (is_culled view t) (wants view t)
        (all_trees_linked (Some at) (at + 1) children)
    trees_linked p at (pending name facts key) =
        trees_pending p (pending name facts key) (is_culled view (pending name facts key))

    all_trees_linked : (p : Option ℕ) (at : ℕ) (ts : Trees)
        → trees (all_linked_nodes view p at ts) ≡ all_visited_nodes view ts
    all_trees_linked p at no_trees = refl
    all_trees_linked p at (more_trees t ts) =
        let next = at + length (linked_nodes view p at t) in
        map-append (λ n. n.tree) (linked_nodes view p at t) (all_linked_nodes view p next ts)
        ∙ ap (λ us. us ++ trees (all_linked_nodes view p next ts)) (trees_linked p at t)
        ∙ ap (λ us. visited_nodes view t ++ us) (all_trees_linked p next ts)

  pub trees_root : (root : Option Tree)
      → trees (from_root (linked_nodes view None 0) root) ≡ visits view root
  trees_root None = refl
  trees_root (Some t) = trees_linked None 0 t

  trees_by : (b : Bool) (ns : List Linked) (ts : List Tree) → trees ns ≡ ts
      → trees (if b then ns else []) ≡ (if b then ts else [])
  trees_by true ns ts e = e
  trees_by false ns ts e = refl

  -- the linked nodes are the noted ones
  pub trees_noted : (root : Option Tree) → trees (linked_visits view root) ≡ noted view root
  trees_noted root =
      trees_by (nat_le (length (visits view root)) VISITED_LIMIT)
      (from_root (linked_nodes view None 0) root) (visits view root) (trees_root root)

pub map-map : {A B C : Type 0} (f : B → C) (g : A → B) (xs : List A)
    → map (λ x. f (g x)) xs ≡ map f (map g xs)
map-map f g [] = refl
map-map f g (x ∷ xs) = ap (λ ys. f (g x) ∷ ys) (map-map f g xs)

-- and name the same contents
pub names_noted : (view : ViewParts) (root : Option Tree)
    → map (λ n. addresses_of n.tree) (linked_visits view root) ≡ names view root
names_noted view root =
    map-map addresses_of (λ (n : Linked). n.tree) (linked_visits view root)
    ∙ ap (map addresses_of) (trees_noted view root)

-- ---- what a note tells of a tree

abbrev role_by : Bool → Bool → Role
role_by w a = if not w then Leaf else if a then Adding else Replacing

module _ (view : ViewParts) (holdings : Holdings) where
  abbrev resident_in : Tree → ℕ
  resident_in t = length (filter holdings.resident (own_contents holdings t))

  abbrev own_in : Tree → ℕ
  own_in t = length (own_contents holdings t)

  abbrev pub unready_in : Tree → ℕ
  unready_in t = length (filter (λ c. not (is_ready view holdings c)) (children_of t))

  has_count : (t : Tree) → has_own holdings t
      ≡ (not (own_in t == 0) && (resident_in t == own_in t))
  has_count t =
      ap (λ b. not b && list_all holdings.resident (own_contents holdings t))
      (empty_length (own_contents holdings t))
      ∙ ap (λ b. not (own_in t == 0) && b)
      (all_count holdings.resident (own_contents holdings t))

  alone_by : (l q : Bool) → (l ≡ true → q ≡ true) → ((not l && q) || l) ≡ q
  alone_by true q e = sym (e refl)
  alone_by false true e = refl
  alone_by false false e = refl

  adding_by : (l q r : Bool) → ((not l && q) || (l && r)) ≡ (if l then r else q)
  adding_by true q r = refl
  adding_by false true r = refl
  adding_by false false r = refl

  -- all own contents are resident where there are none
  none_resident : (t : Tree) → (own_in t == 0) ≡ true → (resident_in t == own_in t) ≡ true
  none_resident t e =
      let none = eqb-true (own_in t) 0 e in
      eq-eqb (resident_in t) (own_in t)
      (omega (arith, none, filter_few holdings.resident (own_contents holdings t)))

  abbrev note : Option ℕ → Tree → Note
  note p t = note_of view holdings (linked p t)

  abbrev told : Tree → Bool → Bool → Bool
  told t w a = ready_by (role_by w a) (own_in t) (resident_in t) (if w then unready_in t else 0)

  reads_tile : (t : Tree) (w a : Bool) → wants view t ≡ w → adds t ≡ a
      → (is_ready view holdings t ≡ told t w a)
      → is_ready view holdings t ≡ told t (wants view t) (adds t)
  reads_tile t w a e f h =
      h ∙ sym (ap (λ b. told t b (adds t)) e ∙ ap (λ b. told t w b) f)

  pub note_reads : (p : Option ℕ) (t : Tree) → is_culled view t ≡ false
      → is_ready view holdings t ≡ ready_of (note p t)
  note_reads p (pending name facts key) c = c
  note_reads p (tile parts children) c = by (wants view t) (adds t) refl refl
    where
      t : Tree
      t = tile parts children

      by : (w a : Bool) → wants view t ≡ w → adds t ≡ a
          → is_ready view holdings t ≡ told t (wants view t) (adds t)
      by false a e f =
          reads_tile t false a e f (ready_alone view holdings t refl c e
          ∙ ap (λ b. b || lacks_own holdings t) (has_count t)
          ∙ ap (λ b. (not (own_in t == 0) && (resident_in t == own_in t)) || b)
          (empty_length (own_contents holdings t))
          ∙ alone_by (own_in t == 0) (resident_in t == own_in t) (none_resident t))
      by true true e f =
          reads_tile t true true e f (ready_adding view holdings t c e f
          ∙ ap (λ b. b || (lacks_own holdings t && list_all (is_ready view holdings)
          (children_of t))) (has_count t)
          ∙ ap (λ b. (not (own_in t == 0) && (resident_in t == own_in t))
          || (b && list_all (is_ready view holdings) (children_of t)))
          (empty_length (own_contents holdings t))
          ∙ ap (λ b. (not (own_in t == 0) && (resident_in t == own_in t))
          || ((own_in t == 0) && b)) (none_count (is_ready view holdings) (children_of t))
          ∙ adding_by (own_in t == 0) (resident_in t == own_in t) (unready_in t == 0))
      by true false e f =
          reads_tile t true false e f (ready_replacing view holdings t c e f
          ∙ ap (λ b. b || list_all (is_ready view holdings) (children_of t)) (has_count t)
          ∙ ap (λ b. (not (own_in t == 0) && (resident_in t == own_in t)) || b)
          (none_count (is_ready view holdings) (children_of t)))

  -- ---- each note is placed and read

  abbrev notes : List Linked → List Note
  notes ns = map (note_of view holdings) ns

  abbrev below : ℕ → Trees → List Linked
  below at ts = all_linked_nodes view (Some at) (at + 1) ts

  outside_tile : (i : ℕ) (p : Option ℕ) (t : Tree) (ns : List Linked) (c w : Bool)
      → is_at i p ≡ false → unready_among i (notes ns) ≡ 0
      → unready_among i (notes (if c then [] else (if w then linked p t ∷ ns else linked p t ∷ [])))
      ≡ 0
  outside_tile i p t ns true w e h = refl
  outside_tile i p t ns false true e h =
      omega (arith, h, one_by (is_at i p) (is_ready view holdings t) e)
  outside_tile i p t ns false false e h =
      omega (arith, one_by (is_at i p) (is_ready view holdings t) e)

  outside_pending : (i : ℕ) (p : Option ℕ) (t : Tree) (c : Bool) → is_at i p ≡ false
      → unready_among i (notes (if c then [] else linked p t ∷ [])) ≡ 0
  outside_pending i p t true e = refl
  outside_pending i p t false e = omega (arith, one_by (is_at i p) (is_ready view holdings t) e)

  among_notes : (i : ℕ) (ns ms : List Linked)
      → unready_among i (notes (ns ++ ms))
      ≡ unready_among i (notes ns) + unready_among i (notes ms)
  among_notes i ns ms =
      ap (unready_among i) (map-append (note_of view holdings) ns ms)
      ∙ among_append i (notes ns) (notes ms)

  mutual
    -- nodes behind a node that it isn't the parent of
    outside : (i : ℕ) (p : Option ℕ) (at : ℕ) (t : Tree) → i < at → is_at i p ≡ false
        → unready_among i (notes (linked_nodes view p at t)) ≡ 0
    outside i p at (tile parts children) lt e =
        let t : Tree = tile parts children in
        outside_tile i p t (below at children) (is_culled view t) (wants view t) e
        (all_outside i (Some at) (at + 1) children (omega (arith, lt))
        (ne_eqb at i (λ z. absurd (omega (arith, lt, z)))))
    outside i p at (pending name facts key) lt e =
        outside_pending i p (pending name facts key) (is_culled view (pending name facts key)) e

    all_outside : (i : ℕ) (p : Option ℕ) (at : ℕ) (ts : Trees) → i < at → is_at i p ≡ false
        → unready_among i (notes (all_linked_nodes view p at ts)) ≡ 0
    all_outside i p at no_trees lt e = refl
    all_outside i p at (more_trees t ts) lt e =
        let next = at + length (linked_nodes view p at t) in
        omega (
          arith,
          among_notes i (linked_nodes view p at t) (all_linked_nodes view p next ts),
          outside i p at t lt e,
          all_outside i p next ts (omega (arith, lt)) e,
        )

  inside_tile : (q : ℕ) (t : Tree) (ns : List Linked) (c w : Bool) → is_culled view t ≡ c
      → unready_among q (notes ns) ≡ 0
      → unready_among q (notes (if c then [] else
      (if w then linked (Some q) t ∷ ns else linked (Some q) t ∷ [])))
      ≡ one_unless (is_ready view holdings t)
  inside_tile q t ns true w e h = sym (ap one_unless (ready_culled view holdings t e))
  inside_tile q t ns false true e h =
      omega (arith, h, one_here q q (note (Some q) t) (is_ready view holdings t) refl refl refl)
  inside_tile q t ns false false e h =
      omega (arith, one_here q q (note (Some q) t) (is_ready view holdings t) refl refl refl)

  inside_pending : (q : ℕ) (t : Tree) (c : Bool) → is_culled view t ≡ c
      → unready_among q (notes (if c then [] else linked (Some q) t ∷ []))
      ≡ one_unless (is_ready view holdings t)
  inside_pending q t true e = sym (ap one_unless (ready_culled view holdings t e))
  inside_pending q t false e =
      omega (arith, one_here q q (note (Some q) t) (is_ready view holdings t) refl refl refl)

  -- a child of the q-th node
  inside : (q at : ℕ) (t : Tree) → q < at
      → unready_among q (notes (linked_nodes view (Some q) at t))
      ≡ one_unless (is_ready view holdings t)
  inside q at (tile parts children) lt =
      let t : Tree = tile parts children in
      inside_tile q t (below at children) (is_culled view t) (wants view t) refl
      (all_outside q (Some at) (at + 1) children (omega (arith, lt))
      (ne_eqb at q (λ z. absurd (omega (arith, lt, z)))))
  inside q at (pending name facts key) lt =
      inside_pending q (pending name facts key) (is_culled view (pending name facts key)) refl

  all_inside : (q at : ℕ) (ts : Trees) → q < at
      → unready_among q (notes (all_linked_nodes view (Some q) at ts))
      ≡ length (filter (λ c. not (is_ready view holdings c)) (list_of ts))
  all_inside q at no_trees lt = refl
  all_inside q at (more_trees t ts) lt =
      let next = at + length (linked_nodes view (Some q) at t) in
      omega (
        arith,
        among_notes q (linked_nodes view (Some q) at t) (all_linked_nodes view (Some q) next ts),
        inside q at t lt,
        all_inside q next ts (omega (arith, lt)),
        count_child (is_ready view holdings) t (list_of ts),
      )

  -- the notes from this number on
  abbrev Told : ℕ → List Linked → Type 0
  Told at ns = ArePlaced at (notes ns) × AreReadBut (λ i. false) at (notes ns)

  told_tile : (p : Option ℕ) (at : ℕ) (t : Tree) (children : Trees) (c w : Bool)
      → children_of t ≡ list_of children → is_culled view t ≡ c → wants view t ≡ w
      → IsBefore p at → Told (at + 1) (below at children)
      → Told at (if c then [] else
      (if w then linked p t ∷ below at children else linked p t ∷ []))
  told_tile p at t children true w e f g h rest = (tt, tt)
  told_tile p at t children false true e f g h rest =
      let counts : (note p t).unready ≡ unready_among at (notes (below at children)) =
      ap (λ b. if b then unready_in t else 0) g
      ∙ ap (λ ts. length (filter (λ c. not (is_ready view holdings c)) ts)) e
      ∙ sym (all_inside at (at + 1) children (omega arith)) in
      ((h, counts, rest.0), ((λ _. note_reads p t f), rest.1))
  told_tile p at t children false false e f g h rest =
      ((h, ap (λ b. if b then unready_in t else 0) g, tt), ((λ _. note_reads p t f), tt))

  told_pending : (p : Option ℕ) (at : ℕ) (t : Tree) (c : Bool) → is_culled view t ≡ c
      → wants view t ≡ false → IsBefore p at → Told at (if c then [] else linked p t ∷ [])
  told_pending p at t true f g h = (tt, tt)
  told_pending p at t false f g h =
      ((h, ap (λ b. if b then unready_in t else 0) g, tt), ((λ _. note_reads p t f), tt))

  told_append : (at : ℕ) (ns ms : List Linked) → Told at ns
      → ((k : ℕ) → at ≤ k → k < at + length ns → unready_among k (notes ms) ≡ 0)
      → Told (at + length ns) ms → Told at (ns ++ ms)
  told_append at ns ms h none k =
      let long : length (notes ns) ≡ length ns = length-map ns (note_of view holdings) in
      let same : at + length ns ≡ at + length (notes ns) = omega (arith, long) in
      let whole = map-append (note_of view holdings) ns ms in (
        subst (ArePlaced at) (sym whole) (placed_append at (notes ns) (notes ms) h.0
            (λ i le lt. none i le (omega (arith, lt, long)))
            (subst (λ i. ArePlaced i (notes ms)) same k.0)),
        subst (AreReadBut (λ i. false) at) (sym whole) (read_append at (notes ns) (notes ms) h.1
            (subst (λ i. AreReadBut (λ i. false) i (notes ms)) same k.1)),
      )

  mutual
    told_nodes : (p : Option ℕ) (at : ℕ) (t : Tree) → IsBefore p at
        → Told at (linked_nodes view p at t)
    told_nodes p at (tile parts children) h =
        let t : Tree = tile parts children in
        let lt : at < at + 1 = omega arith in
        told_tile p at t children (is_culled view t) (wants view t) refl refl refl h
        (all_told_nodes (Some at) (at + 1) children lt)
    told_nodes p at (pending name facts key) h =
        let t : Tree = pending name facts key in
        told_pending p at t (is_culled view t) refl refl h

    all_told_nodes : (p : Option ℕ) (at : ℕ) (ts : Trees) → IsBefore p at
        → Told at (all_linked_nodes view p at ts)
    all_told_nodes p at no_trees h = (tt, tt)
    all_told_nodes p at (more_trees t ts) h =
        let first = linked_nodes view p at t in
        let next = at + length first in
        told_append at first (all_linked_nodes view p next ts) (told_nodes p at t h)
        (λ k le lt. all_outside k p next ts (omega (arith, lt)) (not_at p at k h le))
        (all_told_nodes p next ts (later p at (length first) h))

  told_root : (root : Option Tree) → Told 0 (from_root (linked_nodes view None 0) root)
  told_root None = (tt, tt)
  told_root (Some t) = told_nodes None 0 t tt

  agree_by : (b : Bool) (ns : List Linked) (n : ℕ) → length ns ≡ n
      → (b ≡ true → n ≤ VISITED_LIMIT) → Told 0 ns → Agree (notes (if b then ns else []))
  agree_by true ns n e few h = record {
    few = omega (arith, e, few refl, length-map ns (note_of view holdings));
    placed = h.0;
    read = h.1;
  }
  agree_by false ns n e few h = record { few = omega arith; placed = tt; read = tt }

  -- the notes of a tree agree with one another
  pub root_agrees : (root : Option Tree) → Agree (root_notes view holdings root)
  root_agrees root =
      let ns = from_root (linked_nodes view None 0) root in
      agree_by (nat_le (length (visits view root)) VISITED_LIMIT) ns (length (visits view root))
      (sym (length-map ns (λ n. n.tree)) ∙ ap length (trees_root view root))
      (leb-true (length (visits view root)) VISITED_LIMIT) (told_root root)

-- ---- notes that agree are determined by what they say beside readiness

restored : Note → ℕ → Bool → Note
restored n u r = record n { unready = u; ready = r }

unique_from : (at : ℕ) (ns ms : List Note) → map fixed ns ≡ map fixed ms → ArePlaced at ns
    → ArePlaced at ms → AreReadBut (λ i. false) at ns → AreReadBut (λ i. false) at ms → ns ≡ ms
unfolding restored
unique_from at [] [] e h k r s = refl
unique_from at [] (m ∷ ms) e h k r s = cc
unique_from at (n ∷ ns) [] e h k r s = cc
unique_from at (n ∷ ns) (m ∷ ms) e h k r s =
    let first : fixed n ≡ fixed m = cc in
    let rest : map fixed ns ≡ map fixed ms = cc in
    let tail = unique_from (at + 1) ns ms rest h.2 k.2 r.1 s.1 in
    let counts : n.unready ≡ m.unready = h.1 ∙ ap (unready_among at) tail ∙ sym k.1 in
    let reads : n.ready ≡ m.ready =
    r.0 refl ∙ ap (λ f. ready_of (restored f n.unready false)) first
    ∙ ap (λ u. ready_of (restored (fixed m) u false)) counts ∙ sym (s.0 refl) in
    let same : n ≡ m =
    ap (λ f. restored f n.unready n.ready) first
    ∙ ap (λ u. restored (fixed m) u n.ready) counts
    ∙ ap (λ b. restored (fixed m) m.unready b) reads in
    ap (λ x. x ∷ ns) same ∙ ap (λ xs. m ∷ xs) tail

pub unique : (ns ms : List Note) → SameFixed ns ms → Agree ns → Agree ms → ms ≡ ns
unique ns ms e h k = unique_from 0 ms ns e k.placed h.placed k.read h.read
