-- Several contents go, one behind another.
use Rattle.std.proofs.Common.{ℕ, ◌≡◌, ◌+◌, ◌<◌, ◌≤◌, Bool, true, false, not, ◌&&◌, ◌||◌, Option, List, [], ◌∷◌, ◌++◌, bytes_eq, drop, length, take, refl, sym, ◌∙◌, ap, subst, get_or}
use Rattle.std.specs.List.{AllByRecursion, IsDistinct}
use Rattle.std.proofs.lemmas.List.{drop_more, take-append-drop, take_all, take_more}
use Rattle.std.proofs.lemmas.List.Folds.{list_any-append}
use Rattle.std.proofs.lemmas.Slice.Eq.{bytes_eq-Decides}
use Rattle.error_test.specs.Views.{ViewParts}
use Rattle.expanded_tree.specs.Tree.{Tree}
use Rattle.cut_core.specs.Cut.{Holdings}
use Rattle.view_notes.specs.AllViews.{FollowEach}
use Rattle.view_notes.specs.Asking.{AreNotesOfEach}
use Rattle.view_notes.specs.Changes.{Goes, GoesEach, is_one_of}
use Rattle.view_notes.specs.Follows.{Noted}
use Rattle.view_notes.proofs.Alike.{each_alike}

pub same_turned : (a b : List ℕ) → bytes_eq a b ≡ bytes_eq b a
same_turned a b = by (bytes_eq a b) (bytes_eq b a) refl refl
  where
    by : (c d : Bool) → bytes_eq a b ≡ c → bytes_eq b a ≡ d → c ≡ d
    by true true e f = refl
    by false false e f = refl
    by true false e f =
        let same = (bytes_eq-Decides a b).0 e in
        let back = (bytes_eq-Decides b a).1 (sym same) in
        cc
    by false true e f =
        let same = (bytes_eq-Decides b a).0 f in
        let back = (bytes_eq-Decides a b).1 (sym same) in
        cc

-- ---- an address of distinct ones isn't among those before it

all_middle : {A : Type 0} (P : A → Type 0) (xs : List A) (y : A) (zs : List A)
    → AllByRecursion P (xs ++ y ∷ zs) → P y
all_middle P [] y zs all = all.0
all_middle P (x ∷ xs) y zs all = all_middle P xs y zs all.1

not_before : (xs : List (List ℕ)) (a : List ℕ) (rest : List (List ℕ))
    → IsDistinct bytes_eq (xs ++ a ∷ rest) → is_one_of xs a ≡ false
unfolding IsDistinct
not_before [] a rest apart = refl
not_before (x ∷ xs) a rest apart =
    ap (λ b. b || is_one_of xs a)
    (same_turned a x ∙ all_middle (λ y. bytes_eq x y ≡ false) xs a rest apart.0)
    ∙ not_before xs a rest apart.1

is_new : (xs : List (List ℕ)) (i : ℕ) (d : List ℕ) → i < length xs → IsDistinct bytes_eq xs
    → is_one_of (take i xs) (get_or xs i d) ≡ false
is_new xs i d within apart =
    not_before (take i xs) (get_or xs i d) (drop (i + 1) xs)
    (subst (IsDistinct bytes_eq)
    (sym (take-append-drop i xs) ∙ ap (λ rest. take i xs ++ rest) (drop_more xs i d within)) apart)

-- ---- when the first so many have gone

abbrev pub without : List (List ℕ) → Holdings → Holdings
without addresses h = record {
  resident = λ x. not (is_one_of addresses x) && h.resident x;
  absent = h.absent;
}

not_or : (a b r : Bool) → (not (a || (b || false)) && r) ≡ (not b && (not a && r))
not_or true true r = refl
not_or true false r = refl
not_or false true r = refl
not_or false false r = refl

module _ (addresses : List (List ℕ)) where
  abbrev pub GoesUpTo : ℕ → List Noted → List Noted → Type 0
  GoesUpTo i old new =
      (views : List ViewParts) (before after : Holdings) (root : Option Tree)
      → AreNotesOfEach old views before root → GoesEach addresses before after
      → AreNotesOfEach new views (without (take i addresses) before) root

  pub goes_none : (ns : List Noted) → GoesUpTo 0 ns ns
  goes_none ns views before after root are goes =
      each_alike before (without (take 0 addresses) before)
      (record { resident = λ x. refl; absent = λ x. refl }) ns views root are

  goes_here : (i : ℕ) (d : List ℕ) (before after : Holdings) → i < length addresses
      → GoesEach addresses before after
      → Goes (get_or addresses i d) (without (take i addresses) before)
      (without (take (i + 1) addresses) before)
  goes_here i d before after within goes =
      let a = get_or addresses i d in record {
        was =
            ap (λ b. not b && before.resident a) (is_new addresses i d within goes.apart)
            ∙ goes.were i d within;
        there = goes.there i d within;
        evicts = record {
          resident = λ x.
              ap (λ b. not b && before.resident x)
              (ap (λ xs. is_one_of xs x) (take_more addresses i d within)
              ∙ list_any-append (bytes_eq x) (take i addresses) (a ∷ []))
              ∙ not_or (is_one_of (take i addresses) x) (bytes_eq x a) (before.resident x)
              ∙ ap (λ b. not b && (not (is_one_of (take i addresses) x) && before.resident x))
              (same_turned x a);
          absent = λ x. refl;
        };
      }

  pub goes_next : (i : ℕ) (d : List ℕ) (old new newer : List Noted) → GoesUpTo i old new
      → i < length addresses → FollowEach (Goes (get_or addresses i d)) new newer
      → GoesUpTo (i + 1) old newer
  goes_next i d old new newer h within follows views before after root are goes =
      follows views (without (take i addresses) before) (without (take (i + 1) addresses) before)
      root (h views before after root are goes) (goes_here i d before after within goes)

  pub goes_all : (i : ℕ) (old new : List Noted) → GoesUpTo i old new → length addresses ≤ i
      → FollowEach (GoesEach addresses) old new
  goes_all i old new h le views before after root are goes =
      let whole : take i addresses ≡ addresses = take_all i addresses le in
      each_alike (without addresses before) after
      (record { resident = goes.evicts.resident; absent = goes.evicts.absent }) new views root
      (subst (λ xs. AreNotesOfEach new views (without xs before) root) whole
      (h views before after root are goes))
