-- The notes of several views follow what happens, one behind another.
use Rattle.std.proofs.Common.{ℕ, zero, suc, ◌≡◌, ◌+◌, ◌≤◌, Bool, true, ◌&&◌, Option, Some, List, [], ◌∷◌, length, take, set, refl, ◌∙◌, ap, subst, arith}
use Rattle.std.specs.List.{slice_get}
use Rattle.std.proofs.lemmas.List.{take_all}
use Rattle.error_test.specs.Views.{ViewParts}
use Rattle.expanded_tree.specs.Tree.{Tree}
use Rattle.cut_core.specs.Cut.{Holdings}
use Rattle.cut_core.proofs.Lists.{all_more}
use Rattle.view_notes.specs.AllViews.{FollowEach, TellsLeavingEach, each_leaves_none}
use Rattle.view_notes.specs.Asking.{AreNotesOfEach}
use Rattle.view_notes.specs.Follows.{AreNotesOf, Follow, Noted, TellsLeaving}
use Rattle.view_notes.specs.Leaving.{leaves_none}
use Rattle.view_notes.proofs.Asking.{as_many}

module _ (before after : Holdings) (root : Option Tree) where
  -- the notes of the first so many views have followed
  abbrev pub HaveFollowed : ℕ → List Noted → List ViewParts → Type 0
  HaveFollowed i [] [] = Unit {0}
  HaveFollowed i [] (view ∷ views) = ⊥
  HaveFollowed i (n ∷ ns) [] = ⊥
  HaveFollowed zero (n ∷ ns) (view ∷ views) =
      AreNotesOf n view before root × HaveFollowed zero ns views
  HaveFollowed (suc i) (n ∷ ns) (view ∷ views) =
      AreNotesOf n view after root × HaveFollowed i ns views

  pub none_yet : (ns : List Noted) (views : List ViewParts) → AreNotesOfEach ns views before root
      → HaveFollowed 0 ns views
  none_yet [] [] h = tt
  none_yet [] (view ∷ views) h = absurd h
  none_yet (n ∷ ns) [] h = absurd h
  none_yet (n ∷ ns) (view ∷ views) h = (h.0, none_yet ns views h.1)

  pub all_have : (i : ℕ) (ns : List Noted) (views : List ViewParts) → HaveFollowed i ns views
      → length ns ≤ i → AreNotesOfEach ns views after root
  all_have i [] [] h le = tt
  all_have i [] (view ∷ views) h le = absurd h
  all_have i (n ∷ ns) [] h le = absurd h
  all_have zero (n ∷ ns) (view ∷ views) h le = absurd (omega (arith, le))
  all_have (suc i) (n ∷ ns) (view ∷ views) h le =
      (h.0, all_have i ns views h.1 (omega (arith, le)))

  pub record IsNext (n : Noted) (views : List ViewParts) (i : ℕ) : Type 0 where
    pub view : ViewParts
    pub here : slice_get views i ≡ Some view
    pub notes : AreNotesOf n view before root

  pub is_next : (i : ℕ) (ns : List Noted) (views : List ViewParts) (n : Noted)
      → HaveFollowed i ns views → slice_get ns i ≡ Some n → IsNext n views i
  is_next i [] [] n h e = cc
  is_next i [] (view ∷ views) n h e = absurd h
  is_next i (m ∷ ns) [] n h e = absurd h
  is_next zero (m ∷ ns) (view ∷ views) n h e =
      let same : m ≡ n = cc in
      record {
        view = view;
        here = refl;
        notes = subst (λ o. AreNotesOf o view before root) same h.0;
      }
  is_next (suc i) (m ∷ ns) (view ∷ views) n h e =
      let rest = is_next i ns views n h.1 e in
      record { view = rest.view; here = rest.here; notes = rest.notes }

  one_more_has : (i : ℕ) (ns : List Noted) (views : List ViewParts) (n m : Noted)
      → HaveFollowed i ns views → slice_get ns i ≡ Some n
      → ((view : ViewParts) → AreNotesOf n view before root → AreNotesOf m view after root)
      → HaveFollowed (suc i) (set ns i m) views
  one_more_has i [] [] n m h e f = cc
  one_more_has i [] (view ∷ views) n m h e f = absurd h
  one_more_has i (o ∷ ns) [] n m h e f = absurd h
  one_more_has zero (o ∷ ns) (view ∷ views) n m h e f =
      let same : o ≡ n = cc in
      (f view (subst (λ k. AreNotesOf k view before root) same h.0), h.1)
  one_more_has (suc i) (o ∷ ns) (view ∷ views) n m h e f =
      (h.0, one_more_has i ns views n m h.1 e f)

  pub one_more : (i : ℕ) (ns : List Noted) (views : List ViewParts) (n m : Noted)
      → HaveFollowed i ns views → slice_get ns i ≡ Some n
      → ((view : ViewParts) → AreNotesOf n view before root → AreNotesOf m view after root)
      → HaveFollowed (i + 1) (set ns i m) views
  one_more i ns views n m h e f =
      let next : suc i ≡ i + 1 = omega arith in
      subst (λ k. HaveFollowed k (set ns i m) views) next (one_more_has i ns views n m h e f)

-- it has happened to the first so many views, and this is so of what they lose
abbrev pub FollowsUpTo : (Holdings → Holdings → Type 0) → Type 0 → (List ℕ → Bool) → ℕ
    → List Noted → List Noted → Bool → Type 0
FollowsUpTo Happened Tells awaited i old new answer =
    (views : List ViewParts) (before after : Holdings) (root : Option Tree)
    → AreNotesOfEach old views before root → Happened before after
    → HaveFollowed before after root i new views
    × (Tells → answer ≡ each_leaves_none awaited (take i views) before after root)

module _ (Happened : Holdings → Holdings → Type 0) (Tells : Type 0) (awaited : List ℕ → Bool) where
  pub follows_none : (ns : List Noted) → FollowsUpTo Happened Tells awaited 0 ns ns true
  follows_none ns views before after root are happened =
      (none_yet before after root ns views are, λ tells. refl)

  pub follows_next : (i : ℕ) (old new : List Noted) (answer none : Bool) (n m : Noted)
      → FollowsUpTo Happened Tells awaited i old new answer → slice_get new i ≡ Some n
      → Follow Happened n m → (Tells → TellsLeaving Happened awaited n none)
      → FollowsUpTo Happened Tells awaited (i + 1) old (set new i m) (answer && none)
  follows_next i old new answer none n m h e follows tells views before after root are happened =
      let b = h views before after root are happened in
      let next = is_next before after root i new views n b.0 e in (
        one_more before after root i new views n m b.0 e
            (λ view of. follows view before after root of happened),
        λ t.
            all_more (λ view. leaves_none awaited view before after root) views i next.view
            answer none next.here (b.1 t) (tells t next.view before after root next.notes happened),
      )

  pub follows_all : (i : ℕ) (old new : List Noted) (answer : Bool)
      → FollowsUpTo Happened Tells awaited i old new answer → length new ≤ i
      → FollowEach Happened old new
  follows_all i old new answer h le views before after root are happened =
      all_have before after root i new views (h views before after root are happened).0 le

  pub tells_all : (i : ℕ) (old new : List Noted) (answer : Bool)
      → FollowsUpTo Happened Tells awaited i old new answer → length old ≤ i → Tells
      → TellsLeavingEach Happened awaited old answer
  tells_all i old new answer h le tells views before after root are happened =
      (h views before after root are happened).1 tells
      ∙ ap (λ vs. each_leaves_none awaited vs before after root)
      (take_all i views (omega (arith, le, as_many before root old views are)))
