-- What is ready stays ready while contents become resident or absent.
use Rattle.std.proofs.Common.{ℕ, ◌≡◌, Bool, true, false, not, ◌&&◌, List, [], ◌∷◌, refl, sym, ◌∙◌, ap}
use Rattle.std.specs.List.{list_all, filter}
use Rattle.error_test.specs.Views.{ViewParts}
use Rattle.expanded_tree.specs.Tree.{Tree, tile, pending, Trees, no_trees, more_trees, list_of, addresses_of, children_of}
use Rattle.cut_core.specs.Cut.{Holdings, is_culled, wants, adds, is_pending, is_empty, lacks_own, has_own, is_ready, all_ready}
use Rattle.cut_core.specs.Visits.{keeps_own}
use Rattle.cut_core.proofs.Bools.{and_left, and_right}
use Rattle.cut_core.proofs.CutSteps.{all_ready-list}
use Rattle.cut_core.proofs.Readiness.{readiness, ready-is}
use Rattle.view_notes.specs.Changes.{Grows}
use Rattle.view_notes.proofs.Bools.{both}
use Rattle.view_notes.proofs.Lists.{filter_yes, filter_no}

readiness_grows : (c k h l w a r h' l' r' : Bool) → (r ≡ true → r' ≡ true)
    → (h ≡ true → h' ≡ true) → (l ≡ true → l' ≡ true)
    → readiness c k h l w a r ≡ true → readiness c k h' l' w a r' ≡ true
unfolding readiness
readiness_grows true k h l w a r h' l' r' m n o e = refl
readiness_grows false true h l w a r h' l' r' m n o e = e
readiness_grows false false true l w a r h' l' r' m n o e = rw (n refl)
readiness_grows false false false l w a r true l' r' m n o e = refl
readiness_grows false false false true true true r false l' r' m n o e = rw (o refl) (m e)
readiness_grows false false false true true false r false l' r' m n o e = m e
readiness_grows false false false true false a r false l' r' m n o e = rw (o refl)
readiness_grows false false false false true true r false l' r' m n o e = cc
readiness_grows false false false false true false r false l' r' m n o e = m e
readiness_grows false false false false false a r false l' r' m n o e = cc

module _ (old new : Holdings) (g : Grows old new) where
  abbrev was : List (List ℕ) → List (List ℕ)
  was xs = filter (λ x. not (old.absent x)) xs

  abbrev now : List (List ℕ) → List (List ℕ)
  now xs = filter (λ x. not (new.absent x)) xs

  lacks_grows : (xs : List (List ℕ)) → is_empty (was xs) ≡ true → is_empty (now xs) ≡ true
  lacks_grows [] e = refl
  lacks_grows (x ∷ xs) e = by (old.absent x) refl (lacks_grows xs)
    where
      by : (b : Bool) → old.absent x ≡ b
          → (is_empty (was xs) ≡ true → is_empty (now xs) ≡ true)
          → is_empty (now (x ∷ xs)) ≡ true
      by true h rest =
          ap is_empty (filter_no (λ y. not (new.absent y)) x xs (ap not (g.absent x h)))
          ∙ rest (sym (ap is_empty (filter_no (λ y. not (old.absent y)) x xs (ap not h))) ∙ e)
      by false h rest =
          let some : false ≡ true =
          sym (ap is_empty (filter_yes (λ y. not (old.absent y)) x xs (ap not h))) ∙ e in cc

  -- where all own contents are resident they stay so
  abbrev StaysOwn : List (List ℕ) → Type 0
  StaysOwn xs = (now xs ≡ was xs) × (list_all new.resident (now xs) ≡ true)

  has_grows : (xs : List (List ℕ)) → list_all old.resident (was xs) ≡ true → StaysOwn xs
  has_grows [] e = (refl, refl)
  has_grows (x ∷ xs) e = by (old.absent x) refl (has_grows xs)
    where
      by : (b : Bool) → old.absent x ≡ b → (list_all old.resident (was xs) ≡ true → StaysOwn xs)
          → StaysOwn (x ∷ xs)
      by true h rest =
          let before = filter_no (λ y. not (old.absent y)) x xs (ap not h) in
          let after = filter_no (λ y. not (new.absent y)) x xs (ap not (g.absent x h)) in
          let more = rest (sym (ap (list_all old.resident) before) ∙ e) in
          (after ∙ more.0 ∙ sym before, ap (list_all new.resident) after ∙ more.1)
      by false h rest =
          let before = filter_yes (λ y. not (old.absent y)) x xs (ap not h) in
          let both_true : (old.resident x && list_all old.resident (was xs)) ≡ true =
          sym (ap (list_all old.resident) before) ∙ e in
          let here = g.resident x h (and_left _ _ both_true) in
          let after = filter_yes (λ y. not (new.absent y)) x xs (ap not here.0) in
          let more = rest (and_right (old.resident x) _ both_true) in (
            after ∙ ap (λ ys. x ∷ ys) more.0 ∙ sym before,
            ap (list_all new.resident) after ∙ both (new.resident x) _ here.1 more.1,
          )

  lacks_own_grows : (t : Tree) → lacks_own old t ≡ true → lacks_own new t ≡ true
  lacks_own_grows t e = lacks_grows (addresses_of t) e

  has_own_grows : (t : Tree) → has_own old t ≡ true → has_own new t ≡ true
  has_own_grows t e =
      let stays = has_grows (addresses_of t) (and_right (not (lacks_own old t)) _ e) in
      both (not (lacks_own new t)) _ (ap (λ xs. not (is_empty xs)) stays.0
      ∙ and_left (not (lacks_own old t)) _ e) stays.1

  mutual
    pub ready_grows : (view : ViewParts) (t : Tree) → is_ready view old t ≡ true
        → is_ready view new t ≡ true
    ready_grows view (tile parts children) e =
        let t : Tree = tile parts children in
        ready-is view new t
        ∙ readiness_grows (is_culled view t) (is_pending t) (has_own old t) (lacks_own old t)
        (wants view t) (adds t) (list_all (is_ready view old) (list_of children)) _ _ _
        (λ r. sym (all_ready-list view new children)
        ∙ all_ready_grows view children (all_ready-list view old children ∙ r))
        (has_own_grows t) (lacks_own_grows t) (sym (ready-is view old t) ∙ e)
    ready_grows view (pending name facts key) e = e

    all_ready_grows : (view : ViewParts) (ts : Trees) → all_ready view old ts ≡ true
        → all_ready view new ts ≡ true
    all_ready_grows view no_trees e = refl
    all_ready_grows view (more_trees t ts) e =
        both (is_ready view new t) _ (ready_grows view t (and_left _ _ e))
        (all_ready_grows view ts (and_right (is_ready view old t) _ e))

  all_grows : (view : ViewParts) (ts : List Tree) → list_all (is_ready view old) ts ≡ true
      → list_all (is_ready view new) ts ≡ true
  all_grows view [] e = refl
  all_grows view (t ∷ ts) e =
      both (is_ready view new t) _ (ready_grows view t (and_left _ _ e))
      (all_grows view ts (and_right (is_ready view old t) _ e))

  unkept : (k w a r r' : Bool) → (r ≡ true → r' ≡ true)
      → (not k && not (w && (not a && r))) ≡ false
      → (not k && not (w && (not a && r'))) ≡ false
  unkept true w a r r' m e = refl
  unkept false false a r r' m e = cc
  unkept false true true r r' m e = cc
  unkept false true false false r' m e = cc
  unkept false true false true r' m e = rw (m refl)

  -- what isn't kept stays so
  pub unkept_grows : (view : ViewParts) (t : Tree) → keeps_own view old t ≡ false
      → keeps_own view new t ≡ false
  unkept_grows view t e = unkept _ _ _ _ _ (all_grows view (children_of t)) e
