-- The numbers of the held frames rise, and there are few of them.
use Rattle.std.specs.Prelude.{if◌then◌else◌}
use Rattle.std.proofs.Common.{ℕ, zero, suc, ◌+◌, ◌≤◌, ◌<◌, ◌≡◌, ◌==◌, Bool, true, false, not, ◌&&◌, List, [], ◌∷◌, ◌++◌, map, length, length-append, nat_lt, nat_le, get_or, refl, ◌∙◌, subst, arith, leb-true, le-leb, ltb-true, lt-ltb, eqb-true}
use Rattle.std.specs.List.{list_all, AllByRecursion}
use Rattle.std.specs.List.Sorted.{IsStrictlyIncreasing}
use Rattle.std.proofs.lemmas.List.Elements.{All-from_recursion}
use Rattle.std.proofs.lemmas.List.Folds.{list_all-map}
use Rattle.cut_core.proofs.Bools.{and_left, and_right}
use Rattle.engine_state.specs.declared.entry.Entry.{Entry}
use Rattle.engine_state.specs.declared.entry.Entry.TheVariants.{Opened, Looked, LookRefused, Returned, Taken, DocumentArrived, ContentArrived, Squeezed, Absent, Failed, Starved, Retried, Closed}
use Rattle.engine_state.specs.declared.held_frame.HeldFrame.{HeldFrame}
use Rattle.engine_state.specs.declared.limits.TheConstants.{FRAME_LIMIT}
use Rattle.engine_state.specs.State.{State}
use Rattle.engine_state.specs.Frames.{frame_lines, is_too_large}
use Rattle.engine_state.specs.Allowed.{allowed, may_hold_more}
use Rattle.engine_state.specs.After.{after, without_first}
use Rattle.engine_state.specs.Laws.{AreNumbered}
use Rattle.engine_state.proofs.Lists.{and_both, all_both, all_weaker, all_without_first, shorter_without_first}

abbrev ids_rise : List HeldFrame → Bool
ids_rise [] = true
ids_rise (f ∷ fs) = list_all (λ g. nat_lt f.id g.id) fs && ids_rise fs

abbrev all_given : ℕ → List HeldFrame → Bool
all_given looks fs = list_all (λ f. nat_le f.id looks) fs

pub record HasNumbers (s : State) : Type 0 where
  pub rise : ids_rise s.frames ≡ true
  pub given : all_given s.looks s.frames ≡ true
  pub few : length s.frames ≤ FRAME_LIMIT

rise_without : (test : HeldFrame → Bool) (fs : List HeldFrame) → ids_rise fs ≡ true
    → ids_rise (without_first test fs) ≡ true
rise_without test [] e = refl
rise_without test (f ∷ fs) e =
    elim (test f) as (λ b. ids_rise (if b then fs else f ∷ without_first test fs) ≡ true) [
      | true ↦ and_right (list_all (λ g. nat_lt f.id g.id) fs) _ e
      | false ↦ and_both (list_all (λ g. nat_lt f.id g.id) (without_first test fs)) _
          (all_without_first (λ g. nat_lt f.id g.id) test fs (and_left _ _ e))
          (rise_without test fs (and_right (list_all (λ g. nat_lt f.id g.id) fs) _ e))
    ]

rise_more : (looks : ℕ) (fs : List HeldFrame) (new : HeldFrame) → ids_rise fs ≡ true
    → all_given looks fs ≡ true → looks < new.id → ids_rise (fs ++ new ∷ []) ≡ true
rise_more looks [] new e g h = refl
rise_more looks (f ∷ fs) new e g h =
    let low = leb-true f.id looks (and_left _ _ g) in
    and_both (list_all (λ x. nat_lt f.id x.id) (fs ++ new ∷ [])) _
    (all_both (λ x. nat_lt f.id x.id) fs (new ∷ []) (and_left _ _ e)
    (and_both (nat_lt f.id new.id) true (lt-ltb f.id new.id (omega arith)) refl))
    (rise_more looks fs new (and_right (list_all (λ x. nat_lt f.id x.id) fs) _ e)
    (and_right (nat_le f.id looks) _ g) h)

given_later : (from to : ℕ) (fs : List HeldFrame) → from ≤ to → all_given from fs ≡ true
    → all_given to fs ≡ true
given_later from to fs h e =
    all_weaker (λ f. nat_le f.id from) (λ f. nat_le f.id to)
    (λ f k. let low = leb-true f.id from k in le-leb f.id to (omega arith)) fs e

one_more : (fs : List HeldFrame) (new : HeldFrame) → length fs < FRAME_LIMIT
    → length (fs ++ new ∷ []) ≤ FRAME_LIMIT
one_more fs new h = let e = length-append fs (new ∷ []) in omega arith

pub numbers_step : (s : State) (e : Entry) → allowed s e ≡ true → HasNumbers s
    → HasNumbers (after s e)
numbers_step s (Looked pass id viewer view settled) a p =
    let rest = and_right (s.opened && not s.closed) _ a in
    let room = ltb-true (length s.frames) FRAME_LIMIT (and_left (may_hold_more s) _ rest) in
    let named = and_right (not (is_too_large s view)) _ (and_right (may_hold_more s) _ rest) in
    let is : id ≡ s.looks + 1 = eqb-true id (s.looks + 1) (and_left (id == s.looks + 1) _ named) in
    let new : HeldFrame =
    record { id = id; viewer = viewer; lines = frame_lines s view } in
    let above : s.looks < id = omega arith in
    let later : s.looks ≤ id = omega arith in
    record {
      rise = rise_more s.looks s.frames new p.rise p.given above;
      given = all_both (λ f. nat_le f.id id) s.frames (new ∷ [])
          (given_later s.looks id s.frames later p.given)
          (and_both (nat_le id id) true (le-leb id id (omega arith)) refl);
      few = one_more s.frames new room;
    }
numbers_step s (Returned pass id) a p =
    let fewer = shorter_without_first (λ (f : HeldFrame). f.id == id) s.frames in
    record {
      rise = rise_without (λ f. f.id == id) s.frames p.rise;
      given = all_without_first (λ f. nat_le f.id s.looks) (λ f. f.id == id) s.frames p.given;
      few = le_through fewer p.few;
    }
  where
    le_through : {a b : ℕ} → a ≤ b → b ≤ FRAME_LIMIT → a ≤ FRAME_LIMIT
    le_through h k = omega arith
numbers_step s (Opened root bytes budget order) a p =
    record { rise = p.rise; given = p.given; few = p.few }
numbers_step s (LookRefused pass viewer view settled why) a p =
    record { rise = p.rise; given = p.given; few = p.few }
numbers_step s (Taken pass key) a p = record { rise = p.rise; given = p.given; few = p.few }
numbers_step s (DocumentArrived pass key bytes) a p =
    record { rise = p.rise; given = p.given; few = p.few }
numbers_step s (ContentArrived pass address size digest out) a p =
    record { rise = p.rise; given = p.given; few = p.few }
numbers_step s (Squeezed pass address size) a p =
    record { rise = p.rise; given = p.given; few = p.few }
numbers_step s (Absent pass key why) a p =
    record { rise = p.rise; given = p.given; few = p.few }
numbers_step s (Failed pass key count) a p =
    record { rise = p.rise; given = p.given; few = p.few }
numbers_step s (Starved pass key) a p = record { rise = p.rise; given = p.given; few = p.few }
numbers_step s (Retried pass) a p = record { rise = p.rise; given = p.given; few = p.few }
numbers_step s (Closed pass) a p = record { rise = p.rise; given = p.given; few = p.few }

-- ---- as the law says it

abbrev ids_of : List HeldFrame → List ℕ
ids_of fs = map (λ f. f.id) fs

abbrev pub rises : List ℕ → Bool
rises [] = true
rises (n ∷ ns) = list_all (nat_lt n) ns && rises ns

rises_ids : (fs : List HeldFrame) → ids_rise fs ≡ true → rises (ids_of fs) ≡ true
rises_ids [] e = refl
rises_ids (f ∷ fs) e =
    and_both (list_all (nat_lt f.id) (ids_of fs)) _
    (list_all-map (nat_lt f.id) (λ (g : HeldFrame). g.id) fs ∙ and_left _ _ e)
    (rises_ids fs (and_right (list_all (λ g. nat_lt f.id g.id) fs) _ e))

before_all : (x y : ℕ) (xs : List ℕ) → x < y → IsStrictlyIncreasing (y ∷ xs)
    → IsStrictlyIncreasing (x ∷ y ∷ xs)
before_all x y xs first rest zero within = first
before_all x y xs first rest (suc k) within =
    let e : suc (k + 1) ≡ suc k + 1 = omega arith in
    subst (λ n. get_or (y ∷ xs) k 0 < get_or (x ∷ y ∷ xs) n 0) e (rest k (omega arith))

pub increasing : (xs : List ℕ) → rises xs ≡ true → IsStrictlyIncreasing xs
increasing [] e = λ k within. absurd (omega arith)
increasing (x ∷ []) e = λ k within. absurd (omega arith)
increasing (x ∷ y ∷ xs) e =
    before_all x y xs (ltb-true x y (and_left _ _ (and_left (list_all (nat_lt x) (y ∷ xs)) _ e)))
    (increasing (y ∷ xs) (and_right (list_all (nat_lt x) (y ∷ xs)) _ e))

given_all : (looks : ℕ) (fs : List HeldFrame) → all_given looks fs ≡ true
    → AllByRecursion (λ f. f.id ≤ looks) fs
given_all looks [] e = tt
given_all looks (f ∷ fs) e = (
  leb-true f.id looks (and_left _ _ e),
  given_all looks fs (and_right (nat_le f.id looks) _ e),
)

pub are_numbered : (s : State) → HasNumbers s → AreNumbered s
are_numbered s p = record {
  rise = increasing (ids_of s.frames) (rises_ids s.frames p.rise);
  given = All-from_recursion (λ f. f.id ≤ s.looks) s.frames
      (given_all s.looks s.frames p.given);
  few = p.few;
}
