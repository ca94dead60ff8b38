-- Whether one of the nodes that name a content keeps its own contents.
use Rattle.std.proofs.Common.{ℕ, zero, suc, ◌≡◌, ◌+◌, ◌<◌, Bool, true, false, not, ◌&&◌, ◌||◌, Option, Some, List, [], ◌∷◌, length, map, take, refl, sym, ◌∙◌, ap, subst, arith}
use Rattle.std.specs.Prelude.{◌==◌, bytes_eq, if◌then◌else◌, nat_le}
use Rattle.std.specs.List.{filter, flat_map, list_all, list_any, slice_get}
use Rattle.std.specs.Option.{option_map_or}
use Rattle.std.proofs.lemmas.Bool.{eq-eqb, ne_eqb}
use Rattle.std.proofs.lemmas.List.Folds.{list_any-append}
use Rattle.std.proofs.lemmas.Slice.Eq.{bytes_eq-Decides}
use Rattle.error_test.specs.Views.{ViewParts}
use Rattle.expanded_tree.specs.Tree.{Tree, addresses_of, children_of}
use Rattle.cut_core.specs.declared.findings.TheConstants.{VISITED_LIMIT}
use Rattle.cut_core.specs.Cut.{Holdings, adds, is_pending, is_ready, own_contents, wants}
use Rattle.cut_core.specs.Visits.{keeps_own, kept_contents, visits}
use Rattle.cut_core.proofs.Bools.{or_false, or_true}
use Rattle.cut_core.proofs.Lists.{taken}
use Rattle.view_notes.specs.declared.note.Note.{Note}
use Rattle.view_notes.specs.declared.note.Role.TheVariants.{Pending, Leaf, Adding, Replacing}
use Rattle.view_notes.specs.Leaving.{leaves, leaves_none}
use Rattle.cut_core.specs.Linked.{Linked, linked_visits}
use Rattle.view_notes.specs.Notes.{is_kept, kept_by, note_of, root_notes}
use Rattle.view_notes.specs.Users.{AreLacking, AreUsers, is_among, keeps_at, no_lacking_leaves, times_in, times_of}
use Rattle.view_notes.specs.Views.{kept, names}
use Rattle.view_notes.proofs.Counting.{none_count}
use Rattle.view_notes.proofs.Lists.{filter_no, filter_yes}
use Rattle.view_notes.proofs.TreeNotes.{names_noted, trees_noted, unready_in}

pub keeps_here : (ns : List Note) (u : ℕ) (n : Note) → slice_get ns u ≡ Some n
    → keeps_at ns u ≡ is_kept n
keeps_here ns u n e = ap (λ o. option_map_or is_kept o false) e

-- ---- a loop over the users

pub keeps_some : (ns : List Note) (us : List ℕ) (i u : ℕ) → slice_get us i ≡ Some u
    → keeps_at ns u ≡ true → list_any (keeps_at ns) us ≡ true
keeps_some ns [] i u e h = cc
keeps_some ns (v ∷ us) zero u e h =
    let same : v ≡ u = cc in
    ap (λ b. b || list_any (keeps_at ns) us) (ap (keeps_at ns) same ∙ h)
keeps_some ns (v ∷ us) (suc i) u e h =
    ap (λ b. keeps_at ns v || b) (keeps_some ns us i u e h) ∙ or_true (keeps_at ns v)

pub keeps_none : (ns : List Note) (us : List ℕ) (i u : ℕ) → slice_get us i ≡ Some u
    → list_any (keeps_at ns) (take i us) ≡ false → keeps_at ns u ≡ false
    → list_any (keeps_at ns) (take (i + 1) us) ≡ false
keeps_none ns us i u e before h =
    ap (list_any (keeps_at ns)) (taken us i u e)
    ∙ list_any-append (keeps_at ns) (take i us) (u ∷ [])
    ∙ ap (λ b. b || (keeps_at ns u || false)) before ∙ or_false (keeps_at ns u) ∙ h

-- ---- the nodes in order

abbrev pub any_kept : List ℕ → ℕ → List Note → Bool
any_kept users at [] = false
any_kept users at (n ∷ ns) = (is_among users at && is_kept n) || any_kept users (at + 1) ns

none_kept : (at : ℕ) (ns : List Note) → any_kept [] at ns ≡ false
none_kept at [] = refl
none_kept at (n ∷ ns) = none_kept (at + 1) ns

split_by : (x y k p q : Bool) → (((x || y) && k) || (p || q)) ≡ (((x && k) || p) || ((y && k) || q))
split_by true y true p q = refl
split_by true true false p q = refl
split_by true false false p q = refl
split_by false true true p q = sym (or_true p)
split_by false true false p q = refl
split_by false false k p q = refl

kept_split : (u : ℕ) (us : List ℕ) (at : ℕ) (ns : List Note)
    → any_kept (u ∷ us) at ns ≡ (any_kept (u ∷ []) at ns || any_kept us at ns)
kept_split u us at [] = refl
kept_split u us at (n ∷ ns) =
    ap (λ b. (((u == at) || is_among us at) && is_kept n) || b) (kept_split u us (at + 1) ns)
    ∙ split_by (u == at) (is_among us at) (is_kept n) (any_kept (u ∷ []) (at + 1) ns)
    (any_kept us (at + 1) ns)
    ∙ ap (λ b. ((b && is_kept n) || any_kept (u ∷ []) (at + 1) ns) || any_kept us at (n ∷ ns))
    (sym (or_false (u == at)))

kept_before : (u at : ℕ) (ns : List Note) → u < at → any_kept (u ∷ []) at ns ≡ false
kept_before u at [] lt = refl
kept_before u at (n ∷ ns) lt =
    ap (λ b. ((b || false) && is_kept n) || any_kept (u ∷ []) (at + 1) ns)
    (ne_eqb u at (λ z. absurd (omega (arith, lt, z))))
    ∙ kept_before u (at + 1) ns (omega (arith, lt))

kept_one : (k at : ℕ) (ns : List Note) → any_kept ((at + k) ∷ []) at ns ≡ keeps_at ns k
kept_one k at [] = refl
kept_one zero at (n ∷ ns) =
    let here : at + 0 ≡ at = omega arith in
    ap (λ b. ((b || false) && is_kept n) || any_kept ((at + 0) ∷ []) (at + 1) ns)
    (eq-eqb (at + 0) at here)
    ∙ ap (λ b. is_kept n || b) (kept_before (at + 0) (at + 1) ns (omega arith))
    ∙ or_false (is_kept n)
kept_one (suc k) at (n ∷ ns) =
    let up : at + suc k ≡ (at + 1) + k = omega arith in
    ap (λ b. ((b || false) && is_kept n) || any_kept ((at + suc k) ∷ []) (at + 1) ns)
    (ne_eqb (at + suc k) at (λ z. absurd (omega (arith, z))))
    ∙ ap (λ i. any_kept (i ∷ []) (at + 1) ns) up ∙ kept_one k (at + 1) ns

-- whether a user is kept, by the users and by the nodes
pub kept_in_order : (us : List ℕ) (ns : List Note)
    → list_any (keeps_at ns) us ≡ any_kept us 0 ns
kept_in_order [] ns = sym (none_kept 0 ns)
kept_in_order (u ∷ us) ns =
    let first : 0 + u ≡ u = omega arith in
    ap (λ b. b || list_any (keeps_at ns) us)
    (sym (kept_one u 0 ns) ∙ ap (λ i. any_kept (i ∷ []) 0 ns) first)
    ∙ ap (λ b. any_kept (u ∷ []) 0 ns || b) (kept_in_order us ns)
    ∙ sym (kept_split u us 0 ns)

-- ---- the nodes of a tree

-- the note of a node tells whether the node keeps its own contents
pub kept_is : (view : ViewParts) (holdings : Holdings) (n : Linked)
    → is_kept (note_of view holdings n) ≡ keeps_own view holdings n.tree
kept_is view holdings n = by (is_pending n.tree) (wants view n.tree) (adds n.tree)
    (unready_in view holdings n.tree)
    (list_all (is_ready view holdings) (children_of n.tree))
    (none_count (is_ready view holdings) (children_of n.tree))
  where
    by : (k w a : Bool) (u : ℕ) (r : Bool) → r ≡ (u == 0)
        → kept_by (if k then Pending else if not w then Leaf else if a then Adding else Replacing)
        (if w then u else 0) ≡ (not k && not (w && (not a && r)))
    by true w a u r e = refl
    by false false a u r e = refl
    by false true true u r e = refl
    by false true false u r e = ap not (sym e)

-- ---- who names the content

one_more : (n : ℕ) → not ((1 + n) == 0) ≡ true
one_more n = ap not (ne_eqb (1 + n) 0 (λ z. absurd (omega (arith, z))))

pub among_times : (us : List ℕ) (i : ℕ) → is_among us i ≡ not (times_in us i == 0)
among_times [] i = refl
among_times (u ∷ us) i = by (u == i) (among_times us i)
  where
    by : (b : Bool) → is_among us i ≡ not (times_in us i == 0)
        → (b || is_among us i) ≡ not (((if b then 1 else 0) + times_in us i) == 0)
    by true rest = sym (one_more (times_in us i))
    by false rest =
        let none : times_in us i ≡ 0 + times_in us i = omega arith in
        rest ∙ ap (λ n. not (n == 0)) none

pub named_times : (a : List ℕ) (xs : List (List ℕ))
    → list_any (bytes_eq a) xs ≡ not (times_of a xs == 0)
named_times a [] = refl
named_times a (x ∷ xs) = by (bytes_eq a x) (named_times a xs)
  where
    by : (b : Bool) → list_any (bytes_eq a) xs ≡ not (times_of a xs == 0)
        → (b || list_any (bytes_eq a) xs) ≡ not (((if b then 1 else 0) + times_of a xs) == 0)
    by true rest = sym (one_more (times_of a xs))
    by false rest =
        let none : times_of a xs ≡ 0 + times_of a xs = omega arith in
        rest ∙ ap (λ n. not (n == 0)) none

-- a content that isn't absent is among the own contents where it is among the contents
pub own_named : (a : List ℕ) (h : Holdings) (xs : List (List ℕ)) → h.absent a ≡ false
    → list_any (bytes_eq a) (filter (λ y. not (h.absent y)) xs) ≡ list_any (bytes_eq a) xs
own_named a h [] there = refl
own_named a h (x ∷ xs) there = by (h.absent x) (bytes_eq a x) refl refl (own_named a h xs there)
  where
    by : (b s : Bool) → h.absent x ≡ b → bytes_eq a x ≡ s
        → list_any (bytes_eq a) (filter (λ y. not (h.absent y)) xs) ≡ list_any (bytes_eq a) xs
        → list_any (bytes_eq a) (filter (λ y. not (h.absent y)) (x ∷ xs))
        ≡ (bytes_eq a x || list_any (bytes_eq a) xs)
    by true true e f rest =
        let no : false ≡ true = sym there ∙ ap h.absent ((bytes_eq-Decides a x).0 f) ∙ e in cc
    by true false e f rest =
        ap (list_any (bytes_eq a)) (filter_no (λ y. not (h.absent y)) x xs (ap not e)) ∙ rest
        ∙ sym (ap (λ b. b || list_any (bytes_eq a) xs) f)
    by false s e f rest =
        ap (list_any (bytes_eq a)) (filter_yes (λ y. not (h.absent y)) x xs (ap not e))
        ∙ ap (λ b. bytes_eq a x || b) rest

pub and_if : (k d : Bool) (xs : List (List ℕ)) (a : List ℕ) → d ≡ list_any (bytes_eq a) xs
    → (d && k) ≡ list_any (bytes_eq a) (if k then xs else [])
and_if true true xs a e = e
and_if true false xs a e = e
and_if false true xs a e = refl
and_if false false xs a e = refl

module _ (view : ViewParts) (holdings : Holdings) (a : List ℕ) (users : List ℕ)
    (there : holdings.absent a ≡ false) where
  node_kept : (at : ℕ) (n : Linked) → times_in users at ≡ times_of a (addresses_of n.tree)
      → (is_among users at && is_kept (note_of view holdings n))
      ≡ list_any (bytes_eq a) (kept_contents view holdings n.tree)
  node_kept at n e =
      ap (λ b. is_among users at && b) (kept_is view holdings n)
      ∙ and_if (keeps_own view holdings n.tree) (is_among users at)
      (own_contents holdings n.tree) a
      (among_times users at ∙ ap (λ n. not (n == 0)) e
      ∙ sym (named_times a (addresses_of n.tree))
      ∙ sym (own_named a holdings (addresses_of n.tree) there))

  nodes_kept : (at : ℕ) (ns : List Linked) → AreUsers a users at (map (λ n. addresses_of n.tree) ns)
      → any_kept users at (map (note_of view holdings) ns)
      ≡ list_any (bytes_eq a) (flat_map (kept_contents view holdings) (map (λ n. n.tree) ns))
  nodes_kept at [] h = refl
  nodes_kept at (n ∷ ns) h =
      ap (λ b. b || any_kept users (at + 1) (map (note_of view holdings) ns)) (node_kept at n h.0)
      ∙ ap (λ b. list_any (bytes_eq a) (kept_contents view holdings n.tree) || b)
      (nodes_kept (at + 1) ns h.1)
      ∙ sym (list_any-append (bytes_eq a) (kept_contents view holdings n.tree)
      (flat_map (kept_contents view holdings) (map (λ n. n.tree) ns)))

  pub kept_limit : (b : Bool) (ts : List Tree)
      → flat_map (kept_contents view holdings) (if b then ts else [])
      ≡ (if b then flat_map (kept_contents view holdings) ts else [])
  kept_limit true ts = refl
  kept_limit false ts = refl

  -- one of the nodes that name the content keeps its own exactly where the view keeps the content
  pub root_kept : (root : Option Tree) (ns : List Note) → ns ≡ root_notes view holdings root
      → AreUsers a users 0 (names view root)
      → list_any (keeps_at ns) users ≡ list_any (bytes_eq a) (kept view holdings root)
  root_kept root ns e uses =
      ap (λ (ms : List Note). list_any (keeps_at ms) users) e
      ∙ kept_in_order users (root_notes view holdings root)
      ∙ nodes_kept 0 (linked_visits view root)
      (subst (AreUsers a users 0) (sym (names_noted view root)) uses)
      ∙ ap (λ ts. list_any (bytes_eq a) (flat_map (kept_contents view holdings) ts))
      (trees_noted view root)
      ∙ ap (list_any (bytes_eq a))
      (kept_limit (nat_le (length (visits view root)) VISITED_LIMIT) (visits view root))

-- ---- which nodes keep their own contents no more

module _ (lacking : ℕ → Bool) (contents : List ℕ → Bool) (view : ViewParts) (old new : Holdings) where
  nodes_leave : (at : ℕ) (ns : List Linked)
      → AreLacking lacking contents at (map (λ n. addresses_of n.tree) ns)
      → no_lacking_leaves lacking at (map (note_of view old) ns) (map (note_of view new) ns)
      ≡ list_all (λ t. not (leaves contents view old new t)) (map (λ n. n.tree) ns)
  nodes_leave at [] h = refl
  nodes_leave at (n ∷ ns) h =
      let rest = no_lacking_leaves lacking (at + 1) (map (note_of view old) ns)
      (map (note_of view new) ns) in
      ap (λ b. not (b && (not (is_kept (note_of view new n)) && lacking at)) && rest)
      (kept_is view old n)
      ∙ ap (λ b. not (keeps_own view old n.tree && (not b && lacking at)) && rest)
      (kept_is view new n)
      ∙ ap (λ b. not (keeps_own view old n.tree && (not (keeps_own view new n.tree) && b)) && rest)
      h.0
      ∙ ap (λ b. not (leaves contents view old new n.tree) && b) (nodes_leave (at + 1) ns h.1)

  -- what the notes tell of what leaves is so of the tree
  pub root_leaves : (root : Option Tree) (ns ms : List Note) → ns ≡ root_notes view old root
      → ms ≡ root_notes view new root → AreLacking lacking contents 0 (names view root)
      → no_lacking_leaves lacking 0 ns ms ≡ leaves_none contents view old new root
  root_leaves root ns ms e f lacks =
      ap (λ (xs : List Note). no_lacking_leaves lacking 0 xs ms) e
      ∙ ap (no_lacking_leaves lacking 0 (root_notes view old root)) f
      ∙ nodes_leave 0 (linked_visits view root)
      (subst (AreLacking lacking contents 0) (sym (names_noted view root)) lacks)
      ∙ ap (list_all (λ t. not (leaves contents view old new t))) (trees_noted view root)
