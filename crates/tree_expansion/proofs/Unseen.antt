-- Where each subtree that children wait for out of sight leaves a node, no child is dropped.
use Rattle.std.specs.Prelude.{if◌then◌else◌, Some, None, option_to_list, filter_map}
use Rattle.std.proofs.Common.{ℕ, ◌≡◌, Bool, true, false, not, ◌&&◌, List, [], ◌∷◌, refl, sym, ◌∙◌, ap}
use Rattle.std.proofs.lemmas.List.Folds.{list_all-append}
use Rattle.std.specs.List.{list_all, flat_map, cons_option}
use Rattle.tile_types.specs.declared.key.Key.{Key}
use Rattle.error_test.specs.Views.{ViewParts}
use Rattle.source_port.specs.Library.{Library}
use Rattle.doc_store.specs.Docs.{Docs}
use Rattle.expanded_tree.specs.Facts.{Facts, culls}
use Rattle.expanded_tree.specs.Tree.{Tree, tile, pending, list_of, children_of}
use Rattle.cut_core.specs.Cut.{Holdings, wants, cut}
use Rattle.cut_core.specs.Visits.{visited_nodes, visits}
use Rattle.cut_core.specs.Laws.{IsLoaded}
use Rattle.cut_core.proofs.Bools.{and_left, and_right}
use Rattle.tree_expansion.specs.Expansion.{expand}
use Rattle.tree_expansion.specs.Growth.{Grown, same_tile, read, AllGrown, none_grown, more_grown, dropped, RootGrown, leaves_none}
use Rattle.tree_expansion.specs.Seen.{KeepsChildren, KeepsAll, KeepsBelow, culled_key, culled_below, culled_waits, LeaveNodes}
use Rattle.tree_expansion.specs.Whole.{AgreesWith, full, whole_docs}
use Rattle.tree_expansion.proofs.Agreeing.{grows_into_full}
use Rattle.tree_expansion.proofs.Seeing.{is_loaded, cut_stays, holds_here, holds_below, holds_first, holds_rest, unvisited, visits_listed}

-- where none of the lists has a key that fails, none fails in each of them
all_in_each : {A B : Type 0} (p : B → Bool) (f : A → List B) (xs : List A)
    → list_all p (flat_map f xs) ≡ true → list_all (λ x. list_all p (f x)) xs ≡ true
all_in_each p f [] e = refl
all_in_each p f (x ∷ xs) e =
    let both : (list_all p (f x) && list_all p (flat_map f xs)) ≡ true =
    sym (list_all-append p (f x) (flat_map f xs)) ∙ e in
    ap (λ b. b && list_all (λ y. list_all p (f y)) xs) (and_left _ _ both)
    ∙ all_in_each p f xs (and_right (list_all p (f x)) _ both)

module _ (view : ViewParts) (holdings : Holdings) (new : Docs) where
  abbrev stays_there : Key → Bool
  stays_there key = not (leaves_none new key)

  -- the keys that these nodes wait for out of sight leave nodes
  abbrev leave_nodes : List Tree → Bool
  leave_nodes ts = list_all stays_there (filter_map (culled_key view) ts)

  -- and so do those of the children
  abbrev keeps_below_it : Tree → Bool
  keeps_below_it t = list_all stays_there (culled_below view t)

  rest_leave : (t : Tree) (ts : List Tree) → leave_nodes (t ∷ ts) ≡ true → leave_nodes ts ≡ true
  rest_leave t ts e =
      elim (culled_key view t) as (λ o.
      list_all stays_there (cons_option o (filter_map (culled_key view) ts)) ≡ true
      → leave_nodes ts ≡ true) [
        | None ↦ λ h. h
        | Some key ↦ λ h. and_right (stays_there key) _ h
      ] e

  first_leaves : (name : List ℕ) (facts : Facts) (key : Key) (ts : List Tree)
      → culls view facts ≡ true → leave_nodes (pending name facts key ∷ ts) ≡ true
      → stays_there key ≡ true
  first_leaves name facts key ts c e =
      elim (culls view facts) as (λ b. b ≡ true
      → list_all stays_there
      (cons_option (if b then Some key else None) (filter_map (culled_key view) ts)) ≡ true
      → stays_there key ≡ true) [
        | true ↦ λ h g. and_left (stays_there key) _ g
        | false ↦ λ h g. cc
      ] c e

  children_leave : (t : Tree) → wants view t ≡ true → keeps_below_it t ≡ true
      → leave_nodes (children_of t) ≡ true
  children_leave t w e =
      elim (wants view t) as (λ b. b ≡ true
      → list_all stays_there
      (if b then filter_map (culled_key view) (children_of t) else []) ≡ true
      → leave_nodes (children_of t) ≡ true) [ true ↦ λ h g. g | false ↦ λ h g. cc ] w e

  mutual
    keeps : (t u : Tree) (g : Grown new t u) → list_all is_loaded (visited_nodes view t) ≡ true
        → list_all keeps_below_it (visited_nodes view t) ≡ true → KeepsChildren view new t u g
    keeps t u (same_tile parts ts us g) e k = λ c w.
        keeps_all (list_of ts) (list_of us) g (holds_below view holdings is_loaded parts ts c w e)
        (holds_below view holdings keeps_below_it parts ts c w k)
        (children_leave (tile parts ts) w
        (holds_here view holdings keeps_below_it parts ts c w k))
    keeps t u (read name facts key v found s) e k = tt

    keeps_all : (ts us : List Tree) (g : AllGrown new ts us)
        → list_all is_loaded (flat_map (visited_nodes view) ts) ≡ true
        → list_all keeps_below_it (flat_map (visited_nodes view) ts) ≡ true
        → leave_nodes ts ≡ true → KeepsAll view new ts us g
    keeps_all ts us none_grown e k h = tt
    keeps_all ts us (more_grown t u ts' us' g gs) e k h = (
      keeps t u g (holds_first view holdings is_loaded t ts' e)
          (holds_first view holdings keeps_below_it t ts' k),
      keeps_all ts' us' gs (holds_rest view holdings is_loaded t ts' e)
          (holds_rest view holdings keeps_below_it t ts' k) (rest_leave t ts' h),
    )
    keeps_all ts us (dropped name facts key ts' us' none gs) e k h =
        let unseen : culls view facts ≡ true =
        unvisited view holdings name facts key
        (holds_first view holdings is_loaded (pending name facts key) ts' e) in
        let never : false ≡ true = sym (ap not none) ∙ first_leaves name facts key ts' unseen h in
        cc

  keeps_below : (ts us : List Tree) (g : AllGrown new ts us)
      → list_all is_loaded (flat_map (visited_nodes view) ts) ≡ true
      → list_all keeps_below_it (flat_map (visited_nodes view) ts) ≡ true
      → KeepsBelow view new ts us g
  keeps_below ts us none_grown e k = tt
  keeps_below ts us (more_grown t u ts' us' g gs) e k = (
    keeps t u g (holds_first view holdings is_loaded t ts' e)
        (holds_first view holdings keeps_below_it t ts' k),
    keeps_below ts' us' gs (holds_rest view holdings is_loaded t ts' e)
        (holds_rest view holdings keeps_below_it t ts' k),
  )
  keeps_below ts us (dropped name facts key ts' us' none gs) e k =
      keeps_below ts' us' gs (holds_rest view holdings is_loaded (pending name facts key) ts' e)
      (holds_rest view holdings keeps_below_it (pending name facts key) ts' k)

-- where the visited documents are loaded, the cut is the library's
pub cut_is_full : (view : ViewParts) (holdings : Holdings) (library : Library) (docs : Docs)
    → AgreesWith library docs → (root : List ℕ) → IsLoaded view (expand docs root)
    → LeaveNodes (whole_docs library) (culled_waits view (expand docs root))
    → cut view holdings (expand docs root) ≡ cut view holdings (full library root)
cut_is_full view holdings library docs a root e k =
    let new : Docs = whole_docs library in
    let g : RootGrown new (expand docs root) (full library root) =
    grows_into_full library docs a root in
    cut_stays view holdings new (expand docs root) (full library root) g
    (keeps_below view holdings new (option_to_list (expand docs root))
    (option_to_list (full library root)) g
    (visits_listed view holdings is_loaded (expand docs root) e)
    (visits_listed view holdings (keeps_below_it view holdings new) (expand docs root)
    (all_in_each (λ key. not (leaves_none new key)) (culled_below view)
    (visits view (expand docs root)) k))) e
