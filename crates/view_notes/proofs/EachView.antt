-- What several views want when contents come and go.
use Rattle.std.proofs.Common.{All, ℕ, zero, suc, ◌≡◌, ◌<◌, Bool, true, false, not, ◌&&◌, ◌||◌, Option, List, [], ◌∷◌, ◌++◌, bytes_eq, length, refl, sym, ◌∙◌, ap, arith, get_or}
use Rattle.std.specs.List.{flat_map, list_all, list_any}
use Rattle.tile_types.specs.declared.key.Key.{Key}
use Rattle.error_test.specs.Views.{ViewParts}
use Rattle.expanded_tree.specs.Tree.{Tree}
use Rattle.cut_core.specs.Cut.{Holdings}
use Rattle.cut_core.specs.Visits.{content_key}
use Rattle.cut_core.specs.Wants.{each_once, is_missing}
use Rattle.cut_core.proofs.Bools.{and_left, and_right}
use Rattle.view_notes.specs.AllViews.{EachKeepsNone, EachNoneWaits, each_leaves_none}
use Rattle.view_notes.specs.Asking.{AreNotesOfEach}
use Rattle.view_notes.specs.Changes.{Evicts, Settles, is_one_of}
use Rattle.view_notes.specs.Follows.{Noted}
use Rattle.view_notes.specs.Keeping.{any_keeps, keeps_content}
use Rattle.view_notes.specs.Leaving.{Includes, KeepsNone, lacks, leaves_none}
use Rattle.view_notes.specs.Views.{EachLoses, EachTakeable, RespectsKeys, kept, other_wants, takeable, wanted_by, wishes}
use Rattle.view_notes.proofs.Evictions.{wishes_same}
use Rattle.view_notes.proofs.GoingEach.{same_turned}
use Rattle.view_notes.proofs.KeptByNotes.{view_keeps}
use Rattle.view_notes.proofs.Taking.{others_stay, takeable_stay}
use Rattle.view_notes.proofs.Turning.{or_left, or_right}
use Rattle.view_notes.proofs.Views.{all_lose, all_takeable}

all_first : {A : Type 0} (P : A → Type 0) (x : A) (xs : List A) → All P (x ∷ xs) → P x
all_first P x xs all = all 0 x (omega arith)

all_rest : {A : Type 0} (P : A → Type 0) (x : A) (xs : List A) → All P (x ∷ xs) → All P xs
all_rest P x xs all k d within = all (suc k) d (omega (arith, within))

-- ---- a content has settled

module _ (a : List ℕ) (awaited : List ℕ → Bool) (old new : Holdings) (root : Option Tree)
    (s : Settles a old new) (inc : Includes awaited (is_missing new)) where
  each_loses : (views : List ViewParts) → each_leaves_none awaited views old new root ≡ true
      → EachNoneWaits (content_key a) views root → EachLoses a old new root views
  each_loses [] none waits = tt
  each_loses (view ∷ views) none waits = (
    others_stay awaited view a old new root s inc
        (and_left (leaves_none awaited view old new root) _ none) (waits 0 view (omega arith)),
    each_loses views (and_right (leaves_none awaited view old new root) _ none)
        (λ k d within. waits (suc k) d (omega (arith, within))),
  )

  pub wanted_loses : (views : List ViewParts) → each_leaves_none awaited views old new root ≡ true
      → EachNoneWaits (content_key a) views root
      → wanted_by views new root ≡ other_wants (content_key a) (wanted_by views old root)
  wanted_loses views none waits = all_lose old new root a views (each_loses views none waits)

-- ---- what may be taken

module _ (a : List ℕ) (may : Key → Bool) (awaited : List ℕ → Bool) (old new : Holdings)
    (root : Option Tree) (s : Settles a old new) (off : may (content_key a) ≡ false)
    (inc : Includes awaited (lacks may new)) where
  each_takeable : (views : List ViewParts) → each_leaves_none awaited views old new root ≡ true
      → EachTakeable may old new root views
  each_takeable [] none = tt
  each_takeable (view ∷ views) none = (
    takeable_stay may awaited view a old new root s off inc
        (and_left (leaves_none awaited view old new root) _ none),
    each_takeable views (and_right (leaves_none awaited view old new root) _ none),
  )

  pub takeable_same : (views : List ViewParts) → RespectsKeys may
      → each_leaves_none awaited views old new root ≡ true
      → takeable may (wanted_by views new root) ≡ takeable may (wanted_by views old root)
  takeable_same views respects none =
      all_takeable old new root may views respects (each_takeable views none)

-- ---- contents have gone

module _ (out : List ℕ → Bool) (old new : Holdings) (ev : Evicts out old new)
    (root : Option Tree) where
  all_wishes_same : (views : List ViewParts) → EachKeepsNone out views old root
      → flat_map (λ view. wishes view new root) views ≡ flat_map (λ view. wishes view old root) views
  all_wishes_same [] keeps = refl
  all_wishes_same (view ∷ views) keeps =
      ap (λ ws. ws ++ flat_map (λ view. wishes view new root) views)
      (wishes_same view out old new ev root (keeps 0 view (omega arith)))
      ∙ ap (λ ws. wishes view old root ++ ws)
      (all_wishes_same views (λ k d within. keeps (suc k) d (omega (arith, within))))

  pub wanted_same : (views : List ViewParts) → EachKeepsNone out views old root
      → wanted_by views new root ≡ wanted_by views old root
  wanted_same views keeps = ap each_once (all_wishes_same views keeps)

-- ---- what isn't kept, by the notes

none_is : (x : List ℕ) (addresses : List (List ℕ)) → All (λ a. bytes_eq a x ≡ false) addresses
    → is_one_of addresses x ≡ false
none_is x [] all = refl
none_is x (a ∷ addresses) all =
    ap (λ b. b || is_one_of addresses x)
    (same_turned x a ∙ all_first (λ a. bytes_eq a x ≡ false) a addresses all)
    ∙ none_is x addresses (all_rest (λ a. bytes_eq a x ≡ false) a addresses all)

none_among : (addresses xs : List (List ℕ)) → All (λ a. list_any (bytes_eq a) xs ≡ false) addresses
    → list_all (λ x. not (is_one_of addresses x)) xs ≡ true
none_among addresses [] all = refl
none_among addresses (x ∷ xs) all =
    ap (λ b. not b && list_all (λ x. not (is_one_of addresses x)) xs)
    (none_is x addresses (λ k d within.
    or_left (bytes_eq (get_or addresses k d) x) (list_any (bytes_eq (get_or addresses k d)) xs)
    (all k d within)))
    ∙ none_among addresses xs (λ k d within.
    or_right (bytes_eq (get_or addresses k d) x) (list_any (bytes_eq (get_or addresses k d)) xs)
    (all k d within))

module _ (addresses : List (List ℕ)) (holdings : Holdings) (root : Option Tree)
    (there : All (λ a. holdings.absent a ≡ false) addresses) where
  view_keeps_none : (ns : List Noted) (views : List ViewParts)
      → AreNotesOfEach ns views holdings root → All (λ a. any_keeps ns a ≡ false) addresses
      → (i : ℕ) (d : ViewParts) → i < length views
      → KeepsNone (is_one_of addresses) (get_or views i d) holdings root
  view_keeps_none [] [] are unkept i d within = absurd (omega (arith, within))
  view_keeps_none [] (view ∷ views) are unkept i d within = absurd are
  view_keeps_none (n ∷ ns) [] are unkept i d within = absurd are
  view_keeps_none (n ∷ ns) (view ∷ views) are unkept zero d within =
      none_among addresses (kept view holdings root) (λ k e lt.
      sym (view_keeps holdings (get_or addresses k e) (there k e lt) view root n are.0)
      ∙ or_left (keeps_content n (get_or addresses k e)) (any_keeps ns (get_or addresses k e))
      (unkept k e lt))
  view_keeps_none (n ∷ ns) (view ∷ views) are unkept (suc i) d within =
      view_keeps_none ns views are.1 (λ k e lt.
      or_right (keeps_content n (get_or addresses k e)) (any_keeps ns (get_or addresses k e))
      (unkept k e lt)) i d (omega (arith, within))

  pub each_keeps_none : (ns : List Noted) (views : List ViewParts)
      → AreNotesOfEach ns views holdings root → All (λ a. any_keeps ns a ≡ false) addresses
      → EachKeepsNone (is_one_of addresses) views holdings root
  each_keeps_none ns views are unkept i d within = view_keeps_none ns views are unkept i d within
