-- A content that goes, and that the view doesn't keep, changes nothing that it keeps or wants.
use Rattle.std.proofs.Common.{ℕ, ◌≡◌, Bool, true, false, not, ◌&&◌, cond, Option, Some, None, List, [], ◌∷◌, ◌++◌, map, refl, sym, ◌∙◌, ap, subst}
use Rattle.std.specs.Prelude.{if◌then◌else◌, nat_le, length}
use Rattle.std.specs.List.{AllByRecursion, list_all, flat_map, filter}
use Rattle.std.proofs.lemmas.List.Elements.{filter_agree}
use Rattle.std.proofs.lemmas.List.Folds.{list_all-append}
use Rattle.std.proofs.lemmas.Grind.{flat_map-append}
use Rattle.tile_types.specs.declared.want.Want.{Want}
use Rattle.error_test.specs.Views.{ViewParts}
use Rattle.expanded_tree.specs.Tree.{Tree, tile, pending, Trees, no_trees, more_trees, list_of, addresses_of, children_of, key_of}
use Rattle.cut_core.specs.declared.findings.TheConstants.{VISITED_LIMIT}
use Rattle.cut_core.specs.Cut.{Holdings, is_culled, wants, adds, is_pending, is_empty, lacks_own, has_own, own_contents, is_ready, all_ready}
use Rattle.cut_core.specs.Distances.{Measured, measured_visits, trees_in}
use Rattle.cut_core.specs.Visits.{keeps_own, kept_contents, kept_addresses, visited_nodes, all_visited_nodes, visits, content_key}
use Rattle.cut_core.specs.Wants.{is_missing, key_list, missing_contents, ranks_of, want_with, wants_of}
use Rattle.cut_core.proofs.Bools.{and_left, and_right}
use Rattle.cut_core.proofs.CutSteps.{all_ready-list, ready_culled}
use Rattle.cut_core.proofs.Distances.{trees_visited}
use Rattle.cut_core.proofs.Readiness.{readiness, ready-is}
use Rattle.view_notes.specs.Changes.{Evicts}
use Rattle.view_notes.specs.Views.{kept, noted, wishes}
use Rattle.view_notes.specs.Leaving.{KeepsNone}
use Rattle.view_notes.proofs.Lists.{filter_yes, filter_no}

-- whether a node keeps its own contents, by what there is of it
abbrev pub keeping : Bool → Bool → Bool → Bool → Bool
keeping k w a r = not k && not (w && (not a && r))

readiness_stays : (c k h h' l w a r : Bool) → (keeping k w a r ≡ true → h' ≡ h)
    → readiness c k h' l w a r ≡ readiness c k h l w a r
unfolding readiness
readiness_stays true k h h' l w a r m = refl
readiness_stays false true h h' l w a r m = refl
readiness_stays false false h h' l false a r m = rw (m refl)
readiness_stays false false h h' l true true r m = rw (m refl)
readiness_stays false false h h' l true false false m = rw (m refl)
readiness_stays false false true true l true false true m = refl
readiness_stays false false true false l true false true m = refl
readiness_stays false false false true l true false true m = refl
readiness_stays false false false false l true false true m = refl

-- a node that doesn't want its children doesn't depend on them
pub readiness_alone : (c k h l w a r r' : Bool) → w ≡ false
    → readiness c k h l w a r ≡ readiness c k h l w a r'
unfolding readiness
readiness_alone c k h l true a r r' e = cc
readiness_alone c k h l false a r r' e = refl

keeping_alone : (k w a r r' : Bool) → w ≡ false → keeping k w a r ≡ keeping k w a r'
keeping_alone k true a r r' e = cc
keeping_alone k false a r r' e = refl

pub map_where : {A X : Type 0} (P : A → Type 0) (f g : A → X) → ((x : A) → P x → f x ≡ g x)
    → (xs : List A) → AllByRecursion P xs → map f xs ≡ map g xs
map_where P f g e [] h = refl
map_where P f g e (x ∷ xs) h =
    ap (λ y. y ∷ map f xs) (e x h.0) ∙ ap (λ ys. g x ∷ ys) (map_where P f g e xs h.1)

pub flat_where : {A X : Type 0} (P : A → Type 0) (f g : A → List X)
    → ((x : A) → P x → f x ≡ g x) → (xs : List A) → AllByRecursion P xs
    → flat_map f xs ≡ flat_map g xs
flat_where P f g e [] h = refl
flat_where P f g e (x ∷ xs) h =
    ap (λ ys. ys ++ flat_map f xs) (e x h.0) ∙ ap (λ ys. g x ++ ys) (flat_where P f g e xs h.1)

all_append : {A : Type 0} (P : A → Type 0) (xs ys : List A) → AllByRecursion P xs
    → AllByRecursion P ys → AllByRecursion P (xs ++ ys)
all_append P [] ys h k = k
all_append P (x ∷ xs) ys h k = (h.0, all_append P xs ys h.1 k)

module _ (view : ViewParts) (out : List ℕ → Bool) (old new : Holdings)
    (ev : Evicts out old new) where
  abbrev stays : List ℕ → Bool
  stays x = not (out x)

  own_same : (t : Tree) → own_contents new t ≡ own_contents old t
  own_same t = filter_agree (λ x. not (new.absent x)) (λ x. not (old.absent x))
      (λ x. ap not (ev.absent x)) (addresses_of t)

  resident_same : (xs : List (List ℕ)) → list_all stays xs ≡ true
      → list_all new.resident xs ≡ list_all old.resident xs
  resident_same [] h = refl
  resident_same (x ∷ xs) h =
      ap (λ b. b && list_all new.resident xs)
      (ev.resident x ∙ ap (λ b. b && old.resident x) (and_left _ _ h))
      ∙ ap (λ b. old.resident x && b) (resident_same xs (and_right (stays x) _ h))

  has_own_same : (t : Tree) → list_all stays (own_contents old t) ≡ true
      → has_own new t ≡ has_own old t
  has_own_same t h =
      ap (λ xs. not (is_empty xs) && list_all new.resident xs) (own_same t)
      ∙ ap (λ b. not (lacks_own old t) && b) (resident_same (own_contents old t) h)

  lacks_own_same : (t : Tree) → lacks_own new t ≡ lacks_own old t
  lacks_own_same t = ap is_empty (own_same t)

  -- nothing that these nodes keep goes
  abbrev Kept : List Tree → Type 0
  Kept ts = list_all stays (flat_map (kept_contents view old) ts) ≡ true

  kept_parts : (ts us : List Tree) → Kept (ts ++ us)
      → (list_all stays (flat_map (kept_contents view old) ts)
      && list_all stays (flat_map (kept_contents view old) us)) ≡ true
  kept_parts ts us h =
      sym (list_all-append stays (flat_map (kept_contents view old) ts)
      (flat_map (kept_contents view old) us))
      ∙ sym (ap (list_all stays) (flat_map-append (kept_contents view old) ts us)) ∙ h

  kept_left : (ts us : List Tree) → Kept (ts ++ us) → Kept ts
  kept_left ts us h = and_left _ _ (kept_parts ts us h)

  kept_right : (ts us : List Tree) → Kept (ts ++ us) → Kept us
  kept_right ts us h =
      and_right (list_all stays (flat_map (kept_contents view old) ts)) _ (kept_parts ts us h)

  kept_first : (t : Tree) (us : List Tree) → Kept (t ∷ us)
      → list_all stays (kept_contents view old t) ≡ true
  kept_first t us h =
      and_left _ _ (sym (list_all-append stays (kept_contents view old t)
      (flat_map (kept_contents view old) us)) ∙ h)

  kept_rest : (t : Tree) (us : List Tree) → Kept (t ∷ us) → Kept us
  kept_rest t us h =
      and_right (list_all stays (kept_contents view old t)) _
      (sym (list_all-append stays (kept_contents view old t)
      (flat_map (kept_contents view old) us)) ∙ h)

  -- what stays the same at a visited node
  pub record SameAt (t : Tree) : Type 0 where
    pub ready : is_ready view new t ≡ is_ready view old t
    pub keeps : keeps_own view new t ≡ keeps_own view old t
    pub kept : list_all stays (kept_contents view old t) ≡ true

  keeps_all : (t : Tree) → list_all stays (kept_contents view old t) ≡ true
      → keeps_own view old t ≡ true → list_all stays (own_contents old t) ≡ true
  keeps_all t h k =
      sym (ap (λ b. list_all stays (if b then own_contents old t else [])) k) ∙ h

  -- with the same children, or with children that it doesn't want
  same_here : (t : Tree) → list_all stays (kept_contents view old t) ≡ true → (r : Bool)
      → list_all (is_ready view new) (children_of t) ≡ r
      → readiness (is_culled view t) (is_pending t) (has_own old t) (lacks_own old t)
      (wants view t) (adds t) r ≡ is_ready view old t
      → keeping (is_pending t) (wants view t) (adds t) r ≡ keeps_own view old t
      → SameAt t
  same_here t h r e f g = record {
    ready =
        ready-is view new t
        ∙ ap (λ x. readiness (is_culled view t) (is_pending t) (has_own new t) (lacks_own new t)
        (wants view t) (adds t) x) e
        ∙ ap (λ x. readiness (is_culled view t) (is_pending t) (has_own new t) x (wants view t)
        (adds t) r) (lacks_own_same t)
        ∙ readiness_stays (is_culled view t) (is_pending t) (has_own old t) (has_own new t)
        (lacks_own old t) (wants view t) (adds t) r
        (λ k. has_own_same t (keeps_all t h (sym g ∙ k)))
        ∙ f;
    keeps = ap (keeping (is_pending t) (wants view t) (adds t)) e ∙ g;
    kept = h;
  }

  children_same : (t : Tree) (children : Trees) → children_of t ≡ list_of children
      → all_ready view new children ≡ all_ready view old children
      → list_all (is_ready view new) (children_of t) ≡ list_all (is_ready view old) (children_of t)
  children_same t children below e =
      ap (list_all (is_ready view new)) below ∙ sym (all_ready-list view new children)
      ∙ e ∙ all_ready-list view old children ∙ ap (list_all (is_ready view old)) (sym below)

  abbrev Same : Tree → Type 0
  Same t = (is_ready view new t ≡ is_ready view old t) × AllByRecursion SameAt (visited_nodes view t)

  abbrev AllSame : Trees → Type 0
  AllSame ts = (all_ready view new ts ≡ all_ready view old ts)
      × AllByRecursion SameAt (all_visited_nodes view ts)

  same_tile : (t : Tree) (children : Trees) (c w : Bool) → children_of t ≡ list_of children
      → is_culled view t ≡ c → wants view t ≡ w
      → Kept (if c then [] else (if w then t ∷ all_visited_nodes view children else t ∷ []))
      → (Kept (all_visited_nodes view children) → AllSame children)
      → (is_ready view new t ≡ is_ready view old t) × AllByRecursion SameAt
      (if c then [] else (if w then t ∷ all_visited_nodes view children else t ∷ []))
  same_tile t children true w below e f h ih =
      (ready_culled view new t e ∙ sym (ready_culled view old t e), tt)
  same_tile t children false true below e f h ih =
      let rest = ih (kept_rest t (all_visited_nodes view children) h) in
      let here : SameAt t =
      same_here t (kept_first t (all_visited_nodes view children) h)
      (list_all (is_ready view old) (children_of t)) (children_same t children below rest.0)
      (sym (ready-is view old t)) refl in
      (here.ready, (here, rest.1))
  same_tile t children false false below e f h ih =
      let here : SameAt t =
      same_here t (kept_first t [] h) (list_all (is_ready view new) (children_of t)) refl
      (readiness_alone (is_culled view t) (is_pending t) (has_own old t) (lacks_own old t)
      (wants view t) (adds t) _ _ f ∙ sym (ready-is view old t))
      (keeping_alone (is_pending t) (wants view t) (adds t) _ _ f) in
      (here.ready, (here, tt))

  same_pending : (t : Tree) (c : Bool) → SameAt t
      → AllByRecursion SameAt (if c then [] else t ∷ [])
  same_pending t true h = tt
  same_pending t false h = (h, tt)

  mutual
    same : (t : Tree) → Kept (visited_nodes view t) → Same t
    same (tile parts children) h =
        let t : Tree = tile parts children in
        same_tile t children (is_culled view t) (wants view t) refl refl refl h
        (λ k. all_same children k)
    same (pending name facts key) h =
        let t : Tree = pending name facts key in
        (refl, same_pending t (is_culled view t) (record { ready = refl; keeps = refl; kept = refl }))

    all_same : (ts : Trees) → Kept (all_visited_nodes view ts) → AllSame ts
    all_same no_trees h = (refl, tt)
    all_same (more_trees t ts) h =
        let first = same t (kept_left (visited_nodes view t) (all_visited_nodes view ts) h) in
        let rest = all_same ts (kept_right (visited_nodes view t) (all_visited_nodes view ts) h) in (
          ap (λ b. b && all_ready view new ts) first.0 ∙ ap (λ b. is_ready view old t && b) rest.0,
          all_append SameAt (visited_nodes view t) (all_visited_nodes view ts) first.1 rest.1,
        )

  visits_same : (root : Option Tree) → list_all stays (kept_addresses view old root) ≡ true
      → AllByRecursion SameAt (visits view root)
  visits_same None h = tt
  visits_same (Some t) h = (same t h).1

  by_limit : (b : Bool) (ts : List Tree) → (Kept ts → AllByRecursion SameAt ts)
      → list_all stays (if b then flat_map (kept_contents view old) ts else []) ≡ true
      → AllByRecursion SameAt (if b then ts else [])
  by_limit true ts s h = s h
  by_limit false ts s h = tt

  -- at each noted node
  pub noted_same : (root : Option Tree) → KeepsNone out view old root
      → AllByRecursion SameAt (noted view root)
  noted_same root h =
      by_limit (nat_le (length (visits view root)) VISITED_LIMIT) (visits view root)
      (visits_same root) h

  pub ready_same : (root : Option Tree) → KeepsNone out view old root
      → map (is_ready view new) (noted view root) ≡ map (is_ready view old) (noted view root)
  ready_same root h = map_where SameAt (is_ready view new) (is_ready view old) (λ t s. s.ready)
      (noted view root) (noted_same root h)

  pub keeping_same : (root : Option Tree) → KeepsNone out view old root
      → map (keeps_own view new) (noted view root) ≡ map (keeps_own view old) (noted view root)
  keeping_same root h = map_where SameAt (keeps_own view new) (keeps_own view old)
      (λ t s. s.keeps) (noted view root) (noted_same root h)

  kept_contents_same : (t : Tree) → SameAt t → kept_contents view new t ≡ kept_contents view old t
  kept_contents_same t s =
      ap (λ b. if b then own_contents new t else []) s.keeps
      ∙ ap (λ xs. if keeps_own view old t then xs else []) (own_same t)

  kept_by : (b : Bool) (ts : List Tree) → AllByRecursion SameAt (if b then ts else [])
      → (if b then flat_map (kept_contents view new) ts else [])
      ≡ (if b then flat_map (kept_contents view old) ts else [])
  kept_by true ts h =
      flat_where SameAt (kept_contents view new) (kept_contents view old) kept_contents_same ts h
  kept_by false ts h = refl

  pub kept_same : (root : Option Tree) → KeepsNone out view old root
      → kept view new root ≡ kept view old root
  kept_same root h =
      kept_by (nat_le (length (visits view root)) VISITED_LIMIT) (visits view root)
      (noted_same root h)

  -- the own contents stay, so the same are missing
  missing_same : (xs : List (List ℕ))
      → list_all stays (filter (λ y. not (old.absent y)) xs) ≡ true
      → filter (is_missing new) xs ≡ filter (is_missing old) xs
  missing_same [] h = refl
  missing_same (x ∷ xs) h = by (old.absent x) refl (missing_same xs)
    where
      by : (b : Bool) → old.absent x ≡ b
          → (list_all stays (filter (λ y. not (old.absent y)) xs) ≡ true
          → filter (is_missing new) xs ≡ filter (is_missing old) xs)
          → filter (is_missing new) (x ∷ xs) ≡ filter (is_missing old) (x ∷ xs)
      by true e rest =
          filter_no (is_missing new) x xs
          (ap (λ b. not b && not (new.resident x)) (ev.absent x ∙ e))
          ∙ rest (sym (ap (list_all stays) (filter_no (λ y. not (old.absent y)) x xs (ap not e)))
          ∙ h)
          ∙ sym (filter_no (is_missing old) x xs (ap (λ b. not b && not (old.resident x)) e))
      by false e rest =
          let here =
          sym (ap (list_all stays) (filter_yes (λ y. not (old.absent y)) x xs (ap not e))) ∙ h in
          let resident : new.resident x ≡ old.resident x =
          ev.resident x ∙ ap (λ b. b && old.resident x) (and_left _ _ here) in
          let alike : is_missing new x ≡ is_missing old x =
          ap (λ b. not b && not (new.resident x)) (ev.absent x)
          ∙ ap (λ b. not (old.absent x) && not b) resident in
          ap (λ b. cond b (x ∷ filter (is_missing new) xs) (filter (is_missing new) xs)) alike
          ∙ ap (λ ys. cond (is_missing old x) (x ∷ ys) ys) (rest (and_right (stays x) _ here))

  missing_by : (t : Tree) (b : Bool)
      → list_all stays (if b then own_contents old t else []) ≡ true
      → missing_contents new b t ≡ missing_contents old b t
  missing_by t true h = missing_same (addresses_of t) h
  missing_by t false h = refl

  abbrev want : Holdings → Measured → List Want
  want h m = wants_of h (keeps_own view h m.tree) m

  want_same : (m : Measured) → SameAt m.tree → want new m ≡ want old m
  want_same m s =
      ap (λ b. wants_of new b m) s.keeps
      ∙ ap (λ xs. map (want_with (ranks_of m)) (key_list (key_of m.tree) ++ map content_key xs))
      (missing_by m.tree (keeps_own view old m.tree) s.kept)

  all_measured : (ms : List Measured) (ts : List Tree) → trees_in ms ≡ ts
      → AllByRecursion SameAt ts → AllByRecursion (λ m. SameAt m.tree) ms
  all_measured [] ts e h = tt
  all_measured (m ∷ ms) [] e h = cc
  all_measured (m ∷ ms) (t ∷ ts) e h =
      let first : t ≡ m.tree = cc in
      let rest : trees_in ms ≡ ts = cc in
      (subst SameAt first h.0, all_measured ms ts rest h.1)

  wishes_by : (b : Bool) (ms : List Measured) (ts : List Tree) → trees_in ms ≡ ts
      → AllByRecursion SameAt (if b then ts else [])
      → (if b then flat_map (want new) ms else []) ≡ (if b then flat_map (want old) ms else [])
  wishes_by true ms ts e h =
      flat_where (λ m. SameAt m.tree) (want new) (want old) want_same ms (all_measured ms ts e h)
  wishes_by false ms ts e h = refl

  pub wishes_same : (root : Option Tree) → KeepsNone out view old root
      → wishes view new root ≡ wishes view old root
  wishes_same root h =
      wishes_by (nat_le (length (visits view root)) VISITED_LIMIT) (measured_visits view root)
      (visits view root) (trees_visited view root) (noted_same root h)
