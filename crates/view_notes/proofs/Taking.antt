-- What may be taken of what a view wants, when a content has become resident or absent.
use Rattle.std.proofs.Common.{ℕ, ◌≡◌, Bool, true, false, not, ◌&&◌, ◌||◌, Option, List, [], ◌∷◌, ◌++◌, map, refl, sym, ◌∙◌, ap}
use Rattle.std.specs.Prelude.{if◌then◌else◌, bytes_eq, nat_le, length}
use Rattle.std.specs.List.{list_all, list_any, flat_map, filter}
use Rattle.std.proofs.lemmas.List.Elements.{filter-append, filter_agree}
use Rattle.std.proofs.lemmas.List.Folds.{list_all-append, list_all-map}
use Rattle.std.proofs.lemmas.Slice.Eq.{bytes_eq-Decides}
use Rattle.tile_types.specs.declared.key.Key.{Key}
use Rattle.tile_types.specs.declared.want.Want.{Want}
use Rattle.tile_types.specs.Keys.{same_key}
use Rattle.error_test.specs.Views.{ViewParts}
use Rattle.expanded_tree.specs.Tree.{Tree, addresses_of, key_of}
use Rattle.cut_core.specs.declared.findings.TheConstants.{VISITED_LIMIT}
use Rattle.cut_core.specs.Cut.{Holdings}
use Rattle.cut_core.specs.Distances.{Measured, measured_visits, trees_in}
use Rattle.cut_core.specs.Visits.{content_key, keeps_own, visits}
use Rattle.cut_core.specs.Wants.{is_missing, key_list, keys_wanted, missing_contents, ranks_of, want_with, wants_of}
use Rattle.cut_core.proofs.Bools.{and_left, and_right}
use Rattle.cut_core.proofs.Distances.{trees_visited}
use Rattle.view_notes.specs.Changes.{Settles}
use Rattle.view_notes.specs.Views.{noted, other_wants, takeable, wishes}
use Rattle.view_notes.specs.Leaving.{Includes, NoneWaits, lacks, leaves, leaves_none}
use Rattle.view_notes.proofs.Bools.{and_not_false, both, not_true}
use Rattle.view_notes.proofs.Lists.{filter-flat_map, filter-map, filter_all, filter_both, filter_none, list_all_agree, list_any_agree}
use Rattle.view_notes.proofs.Growing.{unkept_grows}

-- another content may be taken, and this one may not
apart : (may : Key → Bool) (a x : List ℕ) (b : Bool) → bytes_eq a x ≡ b
    → may (content_key a) ≡ false
    → (may (content_key x) && not (bytes_eq a x)) ≡ may (content_key x)
apart may a x true e off =
    let none : may (content_key x) ≡ false =
    sym (ap (λ y. may (content_key y)) ((bytes_eq-Decides a x).0 e)) ∙ off in
    ap (λ b. b && not (bytes_eq a x)) none ∙ sym none
apart may a x false e off =
    ap (λ b. may (content_key x) && not b) e ∙ and_not_false (may (content_key x))

module _ (may : Key → Bool) (view : ViewParts) (a : List ℕ) (old new : Holdings)
    (s : Settles a old new) (off : may (content_key a) ≡ false) where
  abbrev may_at : List ℕ → Bool
  may_at x = may (content_key x)

  -- of the missing contents the same may be taken
  missing_taken : (xs : List (List ℕ))
      → filter may_at (filter (is_missing new) xs) ≡ filter may_at (filter (is_missing old) xs)
  missing_taken xs =
      ap (filter may_at) (filter_agree (is_missing new)
      (λ x. not (bytes_eq a x) && is_missing old x) s.missing xs
      ∙ filter_both (λ x. not (bytes_eq a x)) (is_missing old) xs)
      ∙ sym (filter_both may_at (λ x. not (bytes_eq a x)) (filter (is_missing old) xs))
      ∙ filter_agree (λ x. may_at x && not (bytes_eq a x)) may_at
      (λ x. apart may a x (bytes_eq a x) refl off) (filter (is_missing old) xs)

  abbrev ok : Tree → Bool
  ok t = not (leaves (lacks may new) view old new t)

  contents_by : (t : Tree) (b c : Bool) → keeps_own view old t ≡ b → keeps_own view new t ≡ c
      → not (b && (not c && list_any (lacks may new) (addresses_of t))) ≡ true
      → filter may_at (missing_contents new c t) ≡ filter may_at (missing_contents old b t)
  contents_by t true true k l h = missing_taken (addresses_of t)
  contents_by t true false k l h =
      sym (filter_none (lacks may new) (addresses_of t) (not_true _ h))
      ∙ filter_both may_at (is_missing new) (addresses_of t) ∙ missing_taken (addresses_of t)
  contents_by t false true k l h =
      let never : false ≡ true = sym (unkept_grows old new s.grows view t k) ∙ l in cc
  contents_by t false false k l h = refl

  abbrev keys : Holdings → Tree → List Key
  keys h t = keys_wanted h (keeps_own view h t) t

  keys_taken : (t : Tree) → ok t ≡ true → filter may (keys new t) ≡ filter may (keys old t)
  keys_taken t h =
      filter-append may (key_list (key_of t)) _
      ∙ ap (λ ks. filter may (key_list (key_of t)) ++ ks)
      (filter-map may content_key (missing_contents new (keeps_own view new t) t)
      ∙ ap (map content_key) (contents_by t (keeps_own view old t) (keeps_own view new t) refl refl
      h)
      ∙ sym (filter-map may content_key (missing_contents old (keeps_own view old t) t)))
      ∙ sym (filter-append may (key_list (key_of t)) _)

  abbrev want : Holdings → Measured → List Want
  want h m = wants_of h (keeps_own view h m.tree) m

  node_taken : (m : Measured) → ok m.tree ≡ true
      → takeable may (want new m) ≡ takeable may (want old m)
  node_taken m h =
      filter-map (λ (w : Want). may w.key) (want_with (ranks_of m)) (keys new m.tree)
      ∙ ap (map (want_with (ranks_of m))) (keys_taken m.tree h)
      ∙ sym (filter-map (λ (w : Want). may w.key) (want_with (ranks_of m)) (keys old m.tree))

  nodes_taken : (ms : List Measured) → list_all ok (trees_in ms) ≡ true
      → flat_map (λ m. takeable may (want new m)) ms ≡ flat_map (λ m. takeable may (want old m)) ms
  nodes_taken [] h = refl
  nodes_taken (m ∷ ms) h =
      ap (λ ws. ws ++ flat_map (λ m. takeable may (want new m)) ms)
      (node_taken m (and_left _ _ h))
      ∙ ap (λ ws. takeable may (want old m) ++ ws) (nodes_taken ms (and_right (ok m.tree) _ h))

  all_taken : (b : Bool) (ms : List Measured) (ts : List Tree) → trees_in ms ≡ ts
      → list_all ok (if b then ts else []) ≡ true
      → takeable may (if b then flat_map (want new) ms else [])
      ≡ takeable may (if b then flat_map (want old) ms else [])
  all_taken false ms ts e h = refl
  all_taken true ms ts e h =
      filter-flat_map (λ (w : Want). may w.key) (want new) ms
      ∙ nodes_taken ms (ap (list_all ok) e ∙ h)
      ∙ sym (filter-flat_map (λ (w : Want). may w.key) (want old) ms)

  -- where no tile leaves a missing content that may be taken, the same may be taken
  wishes_taken : (root : Option Tree) → leaves_none (lacks may new) view old new root ≡ true
      → takeable may (wishes view new root) ≡ takeable may (wishes view old root)
  wishes_taken root h =
      all_taken (nat_le (length (visits view root)) VISITED_LIMIT) (measured_visits view root)
      (visits view root) (trees_visited view root) h

-- ---- what is lost

missing_differs : (e m : Bool) → (not e && (not e && m)) ≡ (not e && m)
missing_differs true m = refl
missing_differs false m = refl

differs : (e m : Bool) → (not e && m) ≡ true → not e ≡ true
differs true m h = cc
differs false m h = refl

module _ (view : ViewParts) (a : List ℕ) (old new : Holdings) (s : Settles a old new) where
  abbrev others : Key → Bool
  others k = not (same_key (content_key a) k)

  abbrev wanting : Measured → List Want
  wanting m = wants_of new (keeps_own view new m.tree) m

  missing_others : (xs : List (List ℕ))
      → list_all (λ x. not (bytes_eq a x)) (filter (is_missing new) xs) ≡ true
  missing_others [] = refl
  missing_others (x ∷ xs) = by (is_missing new x) refl (missing_others xs)
    where
      by : (b : Bool) → is_missing new x ≡ b
          → list_all (λ y. not (bytes_eq a y)) (filter (is_missing new) xs) ≡ true
          → list_all (λ y. not (bytes_eq a y)) (if b then x ∷ filter (is_missing new) xs else
          filter (is_missing new) xs) ≡ true
      by true e rest =
          both (not (bytes_eq a x)) _
          (differs (bytes_eq a x) (is_missing old x) (sym (s.missing x) ∙ e)) rest
      by false e rest = rest

  keys_others : (t : Tree) (b : Bool) → list_all others (key_list (key_of t)) ≡ true
      → list_all others (keys_wanted new b t) ≡ true
  keys_others t b h =
      list_all-append others (key_list (key_of t)) (map content_key (missing_contents new b t))
      ∙ both (list_all others (key_list (key_of t))) _ h
      (list_all-map others content_key (missing_contents new b t) ∙ by b)
    where
      by : (c : Bool) → list_all (λ x. not (bytes_eq a x)) (missing_contents new c t) ≡ true
      by true = missing_others (addresses_of t)
      by false = refl

  nodes_others : (ms : List Measured)
      → list_all (λ t. list_all others (key_list (key_of t))) (trees_in ms) ≡ true
      → list_all (λ (w : Want). others w.key) (flat_map wanting ms) ≡ true
  nodes_others [] h = refl
  nodes_others (m ∷ ms) h =
      list_all-append (λ (w : Want). others w.key) (wanting m) (flat_map wanting ms)
      ∙ both (list_all (λ (w : Want). others w.key) (wanting m)) _
      (list_all-map (λ (w : Want). others w.key) (want_with (ranks_of m))
      (keys_wanted new (keeps_own view new m.tree) m.tree)
      ∙ keys_others m.tree (keeps_own view new m.tree) (and_left _ _ h))
      (nodes_others ms (and_right (list_all others (key_list (key_of m.tree))) _ h))

  all_others : (b : Bool) (ms : List Measured) (ts : List Tree) → trees_in ms ≡ ts
      → list_all (λ t. list_all others (key_list (key_of t))) (if b then ts else []) ≡ true
      → list_all (λ (w : Want). others w.key) (if b then flat_map wanting ms else []) ≡ true
  all_others false ms ts e h = refl
  all_others true ms ts e h =
      nodes_others ms (ap (list_all (λ t. list_all others (key_list (key_of t)))) e ∙ h)

  -- where no tile leaves a missing content, the wishes lose this content alone
  wishes_lose : (root : Option Tree) → leaves_none (is_missing new) view old new root ≡ true
      → NoneWaits (content_key a) view root
      → wishes view new root ≡ other_wants (content_key a) (wishes view old root)
  wishes_lose root h waits =
      sym (filter_all (λ (w : Want). others w.key) (wishes view new root)
      (all_others (nat_le (length (visits view root)) VISITED_LIMIT) (measured_visits view root)
      (visits view root) (trees_visited view root) waits))
      ∙ wishes_taken others view a old new s itself root
      (list_all_agree (λ t. not (leaves (lacks others new) view old new t))
      (λ t. not (leaves (is_missing new) view old new t)) same (noted view root) ∙ h)
    where
      itself : others (content_key a) ≡ false
      itself = ap not ((bytes_eq-Decides a a).1 refl)

      lack : (x : List ℕ) → lacks others new x ≡ is_missing new x
      lack x =
          ap (λ b. not (bytes_eq a x) && b) (s.missing x)
          ∙ missing_differs (bytes_eq a x) (is_missing old x) ∙ sym (s.missing x)

      same : (t : Tree) → not (leaves (lacks others new) view old new t)
          ≡ not (leaves (is_missing new) view old new t)
      same t =
          ap (λ b. not (keeps_own view old t && (not (keeps_own view new t) && b)))
          (list_any_agree (lacks others new) (is_missing new) lack (addresses_of t))

-- ---- by a test that passes more

any_more : (p q : List ℕ → Bool) → Includes p q → (xs : List (List ℕ)) → list_any p xs ≡ false
    → list_any q xs ≡ false
any_more p q inc [] e = refl
any_more p q inc (x ∷ xs) e = by (p x) (q x) refl refl e (any_more p q inc xs)
  where
    by : (b c : Bool) → p x ≡ b → q x ≡ c → (b || list_any p xs) ≡ false
        → (list_any p xs ≡ false → list_any q xs ≡ false) → (c || list_any q xs) ≡ false
    by true c f g h rest = cc
    by false true f g h rest = let no : false ≡ true = sym f ∙ inc x g in cc
    by false false f g h rest = rest h

leaves_more : (k l m n : Bool) → (m ≡ false → n ≡ false) → not (k && (not l && m)) ≡ true
    → not (k && (not l && n)) ≡ true
leaves_more false l m n f e = refl
leaves_more true true m n f e = refl
leaves_more true false true n f e = cc
leaves_more true false false n f e = ap not (f refl)

module _ (p q : List ℕ → Bool) (inc : Includes p q) (view : ViewParts) (old new : Holdings) where
  nodes_less : (ts : List Tree) → list_all (λ t. not (leaves p view old new t)) ts ≡ true
      → list_all (λ t. not (leaves q view old new t)) ts ≡ true
  nodes_less [] e = refl
  nodes_less (t ∷ ts) e =
      both (not (leaves q view old new t)) _
      (leaves_more (keeps_own view old t) (keeps_own view new t) _ _
      (any_more p q inc (addresses_of t)) (and_left _ _ e))
      (nodes_less ts (and_right (not (leaves p view old new t)) _ e))

pub takeable_stay : (may : Key → Bool) (awaited : List ℕ → Bool) (view : ViewParts) (a : List ℕ)
    (old new : Holdings) (root : Option Tree) → Settles a old new
    → may (content_key a) ≡ false → Includes awaited (lacks may new)
    → leaves_none awaited view old new root ≡ true
    → takeable may (wishes view new root) ≡ takeable may (wishes view old root)
takeable_stay may awaited view a old new root s off inc h =
    wishes_taken may view a old new s off root
    (nodes_less awaited (lacks may new) inc view old new (noted view root) h)

pub others_stay : (awaited : List ℕ → Bool) (view : ViewParts) (a : List ℕ) (old new : Holdings)
    (root : Option Tree) → Settles a old new → Includes awaited (is_missing new)
    → leaves_none awaited view old new root ≡ true → NoneWaits (content_key a) view root
    → wishes view new root ≡ other_wants (content_key a) (wishes view old root)
others_stay awaited view a old new root s inc h waits =
    wishes_lose view a old new s root
    (nodes_less awaited (is_missing new) inc view old new (noted view root) h) waits
