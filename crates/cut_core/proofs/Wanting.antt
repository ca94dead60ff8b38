-- What the visited nodes want, each key once.
use Rattle.std.specs.Prelude.{if◌then◌else◌, ◌≤◌}
use Rattle.std.specs.Option.{option_map_or}
use Rattle.std.specs.Map.{lookup}
use Rattle.std.specs.List.{list_all, slice_get, AllByRecursion, IsDistinct}
use Rattle.std.proofs.Common.{ℕ, ◌≡◌, ◌+◌, Bool, true, false, not, ◌&&◌, ◌||◌, cond, filter, Option, Some, None, List, [], ◌∷◌, ◌++◌, fold, length, map, take, refl, sym, ◌∙◌, ap}
use Rattle.std.proofs.lemmas.Bool.{le-leb}
use Rattle.indexmap.specs.IndexMap.{insert_entry}
use Rattle.tile_types.specs.declared.key.Key.{Key}
use Rattle.tile_types.specs.declared.want.Want.{Want}
use Rattle.tile_types.specs.Wants.{Ranks}
use Rattle.error_test.specs.Views.{ViewParts}
use Rattle.expanded_tree.specs.Tree.{Tree, tile, pending, addresses_of, key_of}
use Rattle.tile_types.specs.Keys.{same_key}
use Rattle.tile_types.proofs.Keys.{key_turned}
use Rattle.cut_core.specs.declared.findings.TheConstants.{VISITED_LIMIT}
use Rattle.cut_core.specs.Cut.{Holdings, is_empty}
use Rattle.cut_core.specs.Distances.{Measured}
use Rattle.cut_core.specs.Visits.{IsWithinLimit, content_key, unless_too_many, visits}
use Rattle.cut_core.specs.Wants.{each_once, is_missing, joined, keys_wanted, key_list, missing_contents, ranks_of, want_with, wants_of, with_want}
use Rattle.cut_core.specs.WantMap.{want_at}
use Rattle.cut_core.proofs.Lists.{append-nil, filter_taken}

-- ---- the limit

pub unless_within : {A : Type 0} (view : ViewParts) (root : Option Tree) (list : List A)
    → IsWithinLimit view root → unless_too_many view root list ≡ list
unless_within view root list within =
    ap (λ b. if b then list else []) (le-leb (length (visits view root)) VISITED_LIMIT within)

-- ---- a want in the map

module _ (eq : Key → Key → Bool) (same : (a b : Key) → eq a b ≡ same_key a b) (k : Key)
    (r : Ranks) where
  abbrev joined_with : Option Ranks → Ranks
  joined_with earlier = option_map_or (λ e. joined e r) earlier r

  pub put_joins : (es : List (Key × Ranks))
      → map want_at (insert_entry eq es k (joined_with (lookup (same_key k) es)))
      ≡ with_want (map want_at es) (record { key = k; facts = r })
  put_joins [] = refl
  put_joins (e ∷ es) = by (eq k e.0) refl (sym (same k e.0)) (put_joins es)
    where
      by : (b : Bool) → eq k e.0 ≡ b → same_key k e.0 ≡ eq k e.0
          → map want_at (insert_entry eq es k (joined_with (lookup (same_key k) es)))
          ≡ with_want (map want_at es) (record { key = k; facts = r })
          → map want_at (insert_entry eq (e ∷ es) k (joined_with (lookup (same_key k) (e ∷ es))))
          ≡ with_want (map want_at (e ∷ es)) (record { key = k; facts = r })
      by true p q rest = rw (q, p) refl
      by false p q rest = rw (q, p) (ap (λ ws. want_at e ∷ ws) rest)

-- ---- no key twice

abbrev pub key_at : Want → Key
key_at w = w.key

put_other : (key : Key) (ws : List Want) (w : Want)
    → AllByRecursion (λ k. same_key key k ≡ false) (map key_at ws) → same_key key w.key ≡ false
    → AllByRecursion (λ k. same_key key k ≡ false) (map key_at (with_want ws w))
put_other key [] w e n = (n, tt)
put_other key (v ∷ vs) w e n =
    elim (same_key w.key v.key) as (λ b.
    AllByRecursion (λ k. same_key key k ≡ false)
    (map key_at (if b then record {
      key = v.key;
      facts =
          joined v.facts w.facts;
    } ∷ vs else v ∷ with_want vs w))) [
      | true ↦ e
      | false ↦ (e.0, put_other key vs w e.1 n)
    ]

put_distinct : (ws : List Want) (w : Want)
    → IsDistinct same_key (map key_at ws) → IsDistinct same_key (map key_at (with_want ws w))
unfolding IsDistinct
put_distinct [] w e = (tt, tt)
put_distinct (v ∷ vs) w e =
    elim (same_key w.key v.key) as (λ b. same_key w.key v.key ≡ b
    → IsDistinct same_key
    (map key_at (if b then record {
      key = v.key;
      facts =
          joined v.facts w.facts;
    } ∷ vs else v ∷ with_want vs w))) [
      | true ↦ λ s. e
      | false ↦ λ s. (put_other v.key vs w e.0 (key_turned w.key v.key s), put_distinct vs w e.1)
    ] refl

fold_distinct : (ws done : List Want)
    → IsDistinct same_key (map key_at done) → IsDistinct same_key
    (map key_at (fold with_want done ws))
fold_distinct [] done e = e
fold_distinct (w ∷ ws) done e = fold_distinct ws (with_want done w) (put_distinct done w e)

pub once_distinct : (ws : List Want) → IsDistinct same_key (map key_at (each_once ws))
unfolding IsDistinct
once_distinct ws = fold_distinct ws [] tt

-- ---- what a node wants

module _ (holdings : Holdings) where
  all_there : (xs : List (List ℕ))
      → list_all holdings.resident (filter (λ x. not (holdings.absent x)) xs) ≡ true
      → filter (is_missing holdings) xs ≡ []
  all_there [] e = refl
  all_there (x ∷ xs) e = by (holdings.absent x) refl (holdings.resident x) refl (all_there xs)
    where
      by : (a : Bool) → holdings.absent x ≡ a → (r : Bool) → holdings.resident x ≡ r
          → (list_all holdings.resident (filter (λ y. not (holdings.absent y)) xs) ≡ true
          → filter (is_missing holdings) xs ≡ [])
          → filter (is_missing holdings) (x ∷ xs) ≡ []
      by true a r s rest = rw a (rest (rw a at e))
      by false a true s rest = rw (a, s) (rest (let f = rw a at e in rw s at f))
      by false a false s rest = let f = rw a at e in let g = rw s at f in cc

  pub none_missing : (lacks has : Bool) (xs : List (List ℕ))
      → lacks ≡ is_empty (filter (λ x. not (holdings.absent x)) xs)
      → has ≡ (not (is_empty (filter (λ x. not (holdings.absent x)) xs))
      && list_all holdings.resident (filter (λ x. not (holdings.absent x)) xs))
      → (lacks || has) ≡ true → filter (is_missing holdings) xs ≡ []
  none_missing lacks has xs l h e =
      all_there xs (there (filter (λ x. not (holdings.absent x)) xs) (ap (λ b. b || has) (sym l)
      ∙ e) h)
    where
      there : (ys : List (List ℕ)) → (is_empty ys || has) ≡ true
          → has ≡ (not (is_empty ys) && list_all holdings.resident ys)
          → list_all holdings.resident ys ≡ true
      there [] o i = refl
      there (y ∷ ys) o i = sym i ∙ o

  pub wants_pending : (keeps : Bool) (t : Tree) (d : ℕ) (key : Key) → key_of t ≡ Some key
      → wants_of holdings keeps (record { tree = t; distance = d })
      ≡ want_with (ranks_of (record { tree = t; distance = d })) key ∷ []
  wants_pending keeps (tile parts children) d key e = cc
  wants_pending true (pending name facts key') d key e =
      let same : key' ≡ key = cc in
      ap (λ k. want_with (ranks_of (record { tree = pending name facts key'; distance = d })) k ∷
      []) same
  wants_pending false (pending name facts key') d key e =
      let same : key' ≡ key = cc in
      ap (λ k. want_with (ranks_of (record { tree = pending name facts key'; distance = d })) k ∷
      []) same

  -- a tile wants its missing contents alone
  pub wants_tile : (keeps : Bool) (m : Measured) → key_of m.tree ≡ None
      → wants_of holdings keeps m ≡ map (want_with (ranks_of m))
      (map content_key (missing_contents holdings keeps m.tree))
  wants_tile keeps m e =
      ap (λ o. map (want_with (ranks_of m)) (key_list o ++ map content_key
      (missing_contents holdings keeps m.tree))) e

  pub wants_none : (keeps : Bool) (m : Measured) → key_of m.tree ≡ None
      → missing_contents holdings keeps m.tree ≡ [] → wants_of holdings keeps m ≡ []
  wants_none keeps m e none =
      wants_tile keeps m e ∙ ap (λ xs. map (want_with (ranks_of m)) (map content_key xs)) none

  -- ---- one more content

  put_last : (f : Key → Want) (start : List Want) (xs : List (List ℕ)) (a : List ℕ)
      → fold with_want start (map f (map content_key (xs ++ a ∷ [])))
      ≡ with_want (fold with_want start (map f (map content_key xs))) (f (content_key a))
  put_last f start [] a = refl
  put_last f start (x ∷ xs) a = put_last f (with_want start (f (content_key x))) xs a

  module _ (f : Key → Want) (start : List Want) (contents : List (List ℕ)) (i : ℕ) (a : List ℕ)
      (at : slice_get contents i ≡ Some a) where
    abbrev put_before : ℕ → List Want
    put_before n = fold with_want start (map f
        (map content_key (filter (is_missing holdings) (take n contents))))

    pub put_one : (old new : List Want) → is_missing holdings a ≡ true
        → old ≡ put_before i → new ≡ with_want old (f (content_key a)) → new ≡ put_before (i + 1)
    put_one old new missing was now =
        now ∙ ap (λ ws. with_want ws (f (content_key a))) was
        ∙ sym (put_last f start (filter (is_missing holdings) (take i contents)) a)
        ∙ sym (ap (λ xs. fold with_want start (map f (map content_key xs)))
        (filter_taken (is_missing holdings) contents i a at
        ∙ ap (λ b. filter (is_missing holdings) (take i contents) ++ cond b (a ∷ []) []) missing))

    pub put_no : (old : List Want) → is_missing holdings a ≡ false
        → old ≡ put_before i → old ≡ put_before (i + 1)
    put_no old there was =
        was
        ∙ sym (ap (λ xs. fold with_want start (map f (map content_key xs)))
        (filter_taken (is_missing holdings) contents i a at
        ∙ ap (λ b. filter (is_missing holdings) (take i contents) ++ cond b (a ∷ []) []) there
        ∙ append-nil (filter (is_missing holdings) (take i contents))))
