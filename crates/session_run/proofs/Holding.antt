-- Frames that a session holds, and those that its engine's state holds.
use Rattle.std.proofs.Common.{ℕ, zero, suc, ◌≡◌, ◌==◌, ◌<◌, ◌+◌, ◌||◌, Bool, true, false, cond, if◌then◌else◌, Option, Some, None, option_map, OnErr, OnOk, Result, Ok, Err, List, [], ◌∷◌, ◌++◌, IsTrue, AllPairs, drop, find, get_or, length, map, position, slice_index_or, take, refl, sym, ◌∙◌, ap, subst, arith, eq-eqb, ne_eqb}
use Rattle.std.specs.List.{position_from}
use Rattle.std.proofs.lemmas.Iterator.Adapters.{position_from-zero}
use Rattle.std.proofs.lemmas.List.{map-append}
use Rattle.std.proofs.lemmas.List.Kept.{AllPairs-from_increasing}
use Rattle.std.proofs.lemmas.List.Quantifiers.{position-Some}
use Rattle.error_test.specs.Views.{ViewParts}
use Rattle.frame_pins.specs.Frames.{FrameParts}
use Rattle.frame_pins.specs.declared.why.Why.{Why}
use Rattle.engine_state.specs.declared.entry.Entry.{Entry}
use Rattle.engine_state.specs.declared.entry.Entry.TheVariants.{LookRefused, Retried, Returned}
use Rattle.engine_state.specs.declared.held_frame.HeldFrame.{HeldFrame}
use Rattle.engine_state.specs.After.{after, without_first}
use Rattle.engine_state.specs.Frames.{is_held}
use Rattle.engine_state.specs.Journal.{replay}
use Rattle.engine_state.specs.Laws.{AreNumbered}
use Rattle.engine_core.specs.Engine.{Engine}
use Rattle.engine_core.specs.Looking.{IsNextFrame, looked}
use Rattle.session_run.specs.declared.own_frame.OwnFrame.{OwnFrame}
use Rattle.session_run.specs.Obeying.{GoesBack, oldest}
use Rattle.session_run.specs.Sessions.{IsSession, owned, owned_by}
use Rattle.session_run.proofs.Journals.{replay_more}

-- ---- the first that passes a test is taken out

abbrev pub IsTakenOut : {A : Type 0} (test : A → Bool) (xs : List A) (found : Option A)
    (rest : List A) → Type 0
IsTakenOut test xs found rest = (found ≡ find test xs) × (rest ≡ without_first test xs)

none_out : {A : Type 0} (test : A → Bool) (i : ℕ) (xs : List A) → position_from test i xs ≡ None
    → IsTakenOut test xs None xs
none_out test i [] e = (refl, refl)
none_out test i (x ∷ xs) e =
    elim (test x) as (λ b. cond b (Some i) (position_from test (i + 1) xs) ≡ None
    → (None ≡ cond b (Some x) (find test xs))
    × (x ∷ xs ≡ (if b then xs else x ∷ without_first test xs))) [
      | true ↦ λ e. cc
      | false ↦ λ e.
          let o = none_out test (i + 1) xs e in
          (o.0, ap (λ r. x ∷ r) o.1)
    ] e

pub no_place : {A : Type 0} (test : A → Bool) (xs : List A) → position test xs ≡ None
    → IsTakenOut test xs None xs
no_place test xs e = none_out test 0 xs (sym (position_from-zero test xs) ∙ e)

first_out : {A : Type 0} (test : A → Bool) (xs : List A) (i : ℕ) (d : A) → i < length xs
    → test (get_or xs i d) ≡ true → ((k : ℕ) → k < i → test (get_or xs k d) ≡ false)
    → IsTakenOut test xs (Some (get_or xs i d)) (take i xs ++ drop (suc i) xs)
first_out test [] i d h t f = absurd (omega (arith, h))
first_out test (x ∷ xs) zero d h t f = (
  sym (ap (λ b. cond b (Some x) (find test xs)) t),
  sym (ap (λ b. if b then xs else x ∷ without_first test xs) t),
)
first_out test (x ∷ xs) (suc i) d h t f =
    let o = first_out test xs i d (omega (arith, h)) t (λ k q. f (suc k) (omega (arith, q))) in
    let no : test x ≡ false = f 0 (omega arith) in (
      o.0 ∙ sym (ap (λ b. cond b (Some x) (find test xs)) no),
      ap (λ r. x ∷ r) o.1 ∙ sym (ap (λ b. if b then xs else x ∷ without_first test xs) no),
    )

pub at_place : {A : Type 0} (test : A → Bool) (xs : List A) (i : ℕ) (x : A)
    → position test xs ≡ Some i → x ≡ get_or xs i x
    → IsTakenOut test xs (Some x) (take i xs ++ drop (suc i) xs)
at_place test xs i x e is =
    let p = position-Some test xs i x e in
    let o = first_out test xs i x p.0 p.1 p.2 in
    (ap (λ y. Some y) is ∙ o.0, o.1)

none_without : {A : Type 0} (test : A → Bool) (xs : List A) → None ≡ find test xs
    → without_first test xs ≡ xs
none_without test [] e = refl
none_without test (x ∷ xs) e =
    elim (test x) as (λ b. None ≡ cond b (Some x) (find test xs)
    → (if b then xs else x ∷ without_first test xs) ≡ x ∷ xs) [
      | true ↦ λ e. cc
      | false ↦ λ e. ap (λ r. x ∷ r) (none_without test xs e)
    ] e

-- ---- the same frames

abbrev pub owned_pair : OwnFrame → ℕ × ℕ
owned_pair own = owned own.frame

same_found : (viewer : ℕ) (owns : List OwnFrame) (fs : List HeldFrame)
    → map owned_pair owns ≡ map owned_by fs
    → option_map owned_pair (find (λ own. own.frame.viewer == viewer) owns)
    ≡ option_map owned_by (find (λ f. f.viewer == viewer) fs)
same_found viewer [] [] e = refl
same_found viewer [] (f ∷ fs) e = cc
same_found viewer (o ∷ os) [] e = cc
same_found viewer (o ∷ os) (f ∷ fs) e =
    let head : owned_pair o ≡ owned_by f = cc in
    let tail : map owned_pair os ≡ map owned_by fs = cc in
    ap (λ p. option_map owned_pair
    (cond (p.1 == viewer) (Some o) (find (λ own. own.frame.viewer == viewer) os))) head
    ∙ elim (f.viewer == viewer) as (λ b.
    option_map owned_pair (cond b (Some o) (find (λ own. own.frame.viewer == viewer) os))
    ≡ option_map owned_by (cond b (Some f) (find (λ f. f.viewer == viewer) fs))) [
      | true ↦ ap (λ p. Some p) head
      | false ↦ same_found viewer os fs tail
    ]

same_rest : (viewer : ℕ) (owns : List OwnFrame) (fs : List HeldFrame)
    → map owned_pair owns ≡ map owned_by fs
    → map owned_pair (without_first (λ own. own.frame.viewer == viewer) owns)
    ≡ map owned_by (without_first (λ f. f.viewer == viewer) fs)
same_rest viewer [] [] e = refl
same_rest viewer [] (f ∷ fs) e = cc
same_rest viewer (o ∷ os) [] e = cc
same_rest viewer (o ∷ os) (f ∷ fs) e =
    let head : owned_pair o ≡ owned_by f = cc in
    let tail : map owned_pair os ≡ map owned_by fs = cc in
    ap (λ p. map owned_pair
    (if p.1 == viewer then os else o ∷ without_first (λ own. own.frame.viewer == viewer) os)) head
    ∙ elim (f.viewer == viewer) as (λ b.
    map owned_pair
    (if b then os else o ∷ without_first (λ own. own.frame.viewer == viewer) os)
    ≡ map owned_by (if b then fs else f ∷ without_first (λ f. f.viewer == viewer) fs)) [
      | true ↦ tail
      | false ↦ ap (λ p. p ∷ map owned_pair (without_first (λ own. own.frame.viewer == viewer) os))
          head ∙ ap (λ ps. owned_by f ∷ ps) (same_rest viewer os fs tail)
    ]

-- ---- frames whose numbers rise

abbrev ids : List HeldFrame → List ℕ
ids fs = map (λ frame. frame.id) fs

below_found : (low : ℕ) (test : HeldFrame → Bool) (fs : List HeldFrame) (g : HeldFrame)
    → ((j d : ℕ) → j < length (ids fs) → low < slice_index_or (ids fs) j d)
    → find test fs ≡ Some g → low < g.id
below_found low test [] g h e = cc
below_found low test (f ∷ fs) g h e =
    elim (test f) as (λ b. cond b (Some f) (find test fs) ≡ Some g → low < g.id) [
      | true ↦ λ e. let same : f ≡ g = cc in subst (λ x. low < x.id) same (h 0 0 (omega arith))
      | false ↦ λ e. below_found low test fs g (λ j d q. h (suc j) d (omega (arith, q))) e
    ] e

same_out : (test : HeldFrame → Bool) (fs : List HeldFrame) (g : HeldFrame)
    → AllPairs (λ x y. x < y) (ids fs) → find test fs ≡ Some g
    → without_first (λ f. f.id == g.id) fs ≡ without_first test fs
same_out test [] g rise e = refl
same_out test (f ∷ fs) g rise e =
    elim (test f) as (λ b. cond b (Some f) (find test fs) ≡ Some g
    → (if f.id == g.id then fs else f ∷ without_first (λ f. f.id == g.id) fs)
    ≡ (if b then fs else f ∷ without_first test fs)) [
      | true ↦ λ e.
          let same : f ≡ g = cc in
          ap (λ b. if b then fs else f ∷ without_first (λ f. f.id == g.id) fs)
          (eq-eqb f.id g.id (ap (λ x. x.id) same))
      | false ↦ λ e.
          let low : f.id < g.id =
          below_found f.id test fs g (λ j d q. rise 0 (suc j) d (omega arith) (omega (arith, q)))
          e in
          ap (λ b. if b then fs else f ∷ without_first (λ f. f.id == g.id) fs)
          (ne_eqb f.id g.id (λ q. omega (arith, low, q)))
          ∙ ap (λ r. f ∷ r) (same_out test fs g
          (λ i j d q r. rise (suc i) (suc j) d (omega (arith, q)) (omega (arith, r))) e)
    ] e

or_true : (b : Bool) → (b || true) ≡ true
or_true true = refl
or_true false = refl

found_held : (test : HeldFrame → Bool) (fs : List HeldFrame) (g : HeldFrame)
    → find test fs ≡ Some g → is_held fs g.id ≡ true
found_held test [] g e = cc
found_held test (f ∷ fs) g e =
    elim (test f) as (λ b. cond b (Some f) (find test fs) ≡ Some g
    → ((f.id == g.id) || is_held fs g.id) ≡ true) [
      | true ↦ λ e.
          let same : f ≡ g = cc in
          ap (λ b. b || is_held fs g.id) (eq-eqb f.id g.id (ap (λ x. x.id) same))
      | false ↦ λ e.
          ap (λ b. (f.id == g.id) || b) (found_held test fs g e) ∙ or_true (f.id == g.id)
    ] e

-- ---- one entry more

session_more : (old new : List Entry) (e : Entry) (owns left : List OwnFrame)
    → IsSession old owns → new ≡ old ++ e ∷ []
    → map owned_pair left ≡ map owned_by (after (replay old) e).frames
    → (after (replay old) e).flying ≡ (replay old).flying → IsSession new left
session_more old new e owns left s is held flying =
    let state = ap replay is ∙ replay_more old e in
    record {
      held = held ∙ sym (ap (λ t. map owned_by t.frames) state);
      none_flies = ap (λ t. t.flying) state ∙ flying ∙ s.none_flies;
    }

-- one that leaves the frames as they were
session_on : (old new : List Entry) (e : Entry) (owns left : List OwnFrame)
    → IsSession old owns → new ≡ old ++ e ∷ []
    → (after (replay old) e).frames ≡ (replay old).frames
    → (after (replay old) e).flying ≡ (replay old).flying → left ≡ owns → IsSession new left
session_on old new e owns left s is frames flying same =
    session_more old new e owns left s is
    (ap (map owned_pair) same ∙ s.held ∙ sym (ap (map owned_by) frames)) flying

-- a look that is refused
pub refused_session : (old new : List Entry) (viewer : ℕ) (view : ViewParts) (settled : Bool)
    (why : Why) (owns left : List OwnFrame) → IsSession old owns
    → new ≡ old ++ LookRefused 0 viewer view settled why ∷ [] → left ≡ owns → IsSession new left
refused_session old new viewer view settled why owns left s is same =
    session_on old new (LookRefused 0 viewer view settled why) owns left s is refl refl same

-- none
session_still : (old new : List Entry) (owns left : List OwnFrame) → IsSession old owns
    → new ≡ old → left ≡ owns → IsSession new left
session_still old new owns left s is same = record {
  held = ap (map owned_pair) same ∙ s.held ∙ sym (ap (λ j. map owned_by (replay j).frames) is);
  none_flies = ap (λ j. (replay j).flying) is ∙ s.none_flies;
}

-- a further try, or none
pub retried_session : {A B : Type 0} (result : Result A B) (old new : Engine)
    (owns : List OwnFrame) → IsSession old.journal owns
    → OnOk result (new.journal ≡ old.journal ++ Retried 0 ∷ []) → OnErr result (new ≡ old)
    → IsSession new.journal owns
retried_session (Ok done) old new owns s is same =
    session_on old.journal new.journal (Retried 0) owns owns s is refl refl refl
retried_session (Err e) old new owns s is same =
    session_still old.journal new.journal owns owns s (ap (λ e. e.journal) same) refl

-- a frame that is looked at is held
pub looked_session : (old new : List Entry) (viewer : ℕ) (view : ViewParts) (settled : Bool)
    (frame : FrameParts) (owns left : List OwnFrame) → IsSession old owns
    → IsNextFrame old viewer view frame → new ≡ old ++ looked old 0 viewer view settled ∷ []
    → left ≡ owns ++ record { frame = frame } ∷ [] → IsSession new left
looked_session old new viewer view settled frame owns left s n is one =
    let fs = (replay old).frames in
    let e = looked old 0 viewer view settled in
    let pair : owned frame ≡ ((replay old).looks + 1, viewer) =
    ap (λ id. (id, frame.viewer)) n.next ∙ ap (λ v. ((replay old).looks + 1, v)) n.own_viewer in
    session_more old new e owns left s is
    (ap (map owned_pair) one ∙ map-append owned_pair owns (record { frame = frame } ∷ [])
    ∙ ap (λ ps. ps ++ owned frame ∷ []) s.held ∙ ap (λ p. map owned_by fs ++ p ∷ []) pair
    ∙ sym (map-append owned_by fs _)) refl

-- ---- the oldest frame of a viewer goes back

record IsOldest (o : Option HeldFrame) (own : OwnFrame) : Type 0 where
  frame : HeldFrame
  is : o ≡ Some frame
  id : frame.id ≡ own.frame.id

oldest_by : (o : Option HeldFrame) (own : OwnFrame)
    → Some (owned_pair own) ≡ option_map owned_by o → IsOldest o own
oldest_by None own e = cc
oldest_by (Some f) own e =
    let same : owned_pair own ≡ owned_by f = cc in
    record { frame = f; is = refl; id = sym (ap (λ p. p.0) same) }

none_by : (o : Option HeldFrame) → None ≡ option_map owned_by o → o ≡ None
none_by None e = refl
none_by (Some f) e = cc

module _ (journal : List Entry) (owns : List OwnFrame) (s : IsSession journal owns) (viewer : ℕ)
  where
    abbrev test : OwnFrame → Bool
    test own = own.frame.viewer == viewer

    is_oldest : (own : OwnFrame) → Some own ≡ find test owns
        → IsOldest (oldest (replay journal) viewer) own
    is_oldest own e =
        oldest_by _ own
        (ap (option_map owned_pair) e ∙ same_found viewer owns (replay journal).frames s.held)

    pub oldest_held : (own : OwnFrame) → Some own ≡ find test owns
        → IsTrue (is_held (replay journal).frames own.frame.id)
    oldest_held own e =
        let o = is_oldest own e in
        ap (is_held (replay journal).frames) (sym o.id)
        ∙ found_held (λ f. f.viewer == viewer) (replay journal).frames o.frame o.is

    pub oldest_goes : (own : OwnFrame) (new : List Entry) → Some own ≡ find test owns
        → new ≡ journal ++ Returned 0 own.frame.id ∷ []
        → GoesBack (oldest (replay journal) viewer) journal new
    oldest_goes own new e is =
        let o = is_oldest own e in
        subst (λ f. GoesBack f journal new) (sym o.is)
        (is ∙ ap (λ id. journal ++ Returned 0 id ∷ []) (sym o.id))

    pub none_goes : None ≡ find test owns → GoesBack (oldest (replay journal) viewer) journal journal
    none_goes e =
        subst (λ f. GoesBack f journal journal)
        (sym (none_by _
        (ap (option_map owned_pair) e ∙ same_found viewer owns (replay journal).frames s.held)))
        refl

    pub none_left : (left : List OwnFrame) → None ≡ find test owns → left ≡ without_first test owns
        → IsSession journal left
    none_left left e rest = record {
      held = ap (map owned_pair) (rest ∙ none_without test owns e) ∙ s.held;
      none_flies = s.none_flies;
    }

    pub left_session : (own : OwnFrame) (new : List Entry) (left : List OwnFrame)
        → AreNumbered (replay journal) → Some own ≡ find test owns → left ≡ without_first test owns
        → new ≡ journal ++ Returned 0 own.frame.id ∷ [] → IsSession new left
    left_session own new left n e rest is =
        let o = is_oldest own e in
        let fs = (replay journal).frames in
        session_more journal new (Returned 0 own.frame.id) owns left s is
        (ap (map owned_pair) rest ∙ same_rest viewer owns fs s.held
        ∙ ap (map owned_by) (sym (same_out (λ f. f.viewer == viewer) fs o.frame
        (AllPairs-from_increasing (ids fs) n.rise) o.is)
        ∙ ap (λ id. without_first (λ f. f.id == id) fs) o.id)) refl
