-- The latest views stand by rising viewer.
use Rattle.std.specs.Prelude.{if◌then◌else◌}
use Rattle.std.proofs.Common.{ℕ, ◌≤◌, ◌<◌, ◌≡◌, ◌==◌, true, false, ◌&&◌, List, [], ◌∷◌, map, nat_lt, refl, ◌∙◌, ap, arith, ltb-true, ltb-false, lt-ltb, eqb-true}
use Rattle.std.proofs.lemmas.Bool.{eqb-false}
use Rattle.std.specs.List.{list_all}
use Rattle.error_test.specs.Views.{ViewParts}
use Rattle.cut_core.proofs.Bools.{and_left, and_right}
use Rattle.engine_state.specs.declared.entry.Entry.{Entry}
use Rattle.engine_state.specs.declared.entry.Entry.TheVariants.{Opened, Looked, LookRefused, Returned, Taken, DocumentArrived, ContentArrived, Squeezed, Absent, Failed, Starved, Retried, Closed}
use Rattle.engine_state.specs.declared.seen.Seen.{Seen}
use Rattle.engine_state.specs.State.{State}
use Rattle.engine_state.specs.Views.{seen_by, with_view}
use Rattle.engine_state.specs.Allowed.{allowed}
use Rattle.engine_state.specs.After.{after}
use Rattle.engine_state.proofs.Lists.{and_both, all_weaker}
use Rattle.engine_state.proofs.Numbers.{rises}

abbrev pub viewers_of : List Seen → List ℕ
viewers_of views = map (λ seen. seen.viewer) views

above_all : (n viewer : ℕ) (view : ViewParts) (vs : List Seen) → n < viewer
    → list_all (nat_lt n) (viewers_of vs) ≡ true
    → list_all (nat_lt n) (viewers_of (with_view viewer view vs)) ≡ true
above_all n viewer view [] h e = and_both (nat_lt n viewer) true (lt-ltb n viewer h) refl
above_all n viewer view (v ∷ vs) h e =
    elim (nat_lt viewer v.viewer) as (λ b. list_all (nat_lt n)
    (viewers_of (if b then seen_by viewer view ∷ v ∷ vs
    else if viewer == v.viewer then seen_by viewer view ∷ vs
    else v ∷ with_view viewer view vs)) ≡ true) [
      | true ↦ and_both (nat_lt n viewer) _ (lt-ltb n viewer h) e
      | false ↦ elim (viewer == v.viewer) as (λ b. list_all (nat_lt n)
          (viewers_of (if b then seen_by viewer view ∷ vs else v ∷ with_view viewer view vs))
          ≡ true) [
            | true ↦ and_both (nat_lt n viewer) _ (lt-ltb n viewer h)
                (and_right (nat_lt n v.viewer) _ e)
            | false ↦ and_both (nat_lt n v.viewer) _ (and_left _ _ e)
                (above_all n viewer view vs h (and_right (nat_lt n v.viewer) _ e))
          ]
    ]

-- what is above a number is above a lesser one
above_lesser : (m n : ℕ) (xs : List ℕ) → m < n → list_all (nat_lt n) xs ≡ true
    → list_all (nat_lt m) xs ≡ true
above_lesser m n xs h e =
    all_weaker (nat_lt n) (nat_lt m)
    (λ x k. let above : n < x = ltb-true n x k in lt-ltb m x (omega arith)) xs e

other_above : (viewer other : ℕ) → nat_lt viewer other ≡ false → (viewer == other) ≡ false
    → other < viewer
other_above viewer other l e =
    let le : other ≤ viewer = ltb-false viewer other l in
    elim (nat_lt other viewer) as (λ b. nat_lt other viewer ≡ b → other < viewer) [
      | true ↦ λ h. ltb-true other viewer h
      | false ↦ λ h.
          let ge : viewer ≤ other = ltb-false other viewer h in
          absurd (eqb-false viewer other e (omega arith))
    ] refl

with_view_rises : (viewer : ℕ) (view : ViewParts) (vs : List Seen)
    → rises (viewers_of vs) ≡ true → rises (viewers_of (with_view viewer view vs)) ≡ true
with_view_rises viewer view [] e = refl
with_view_rises viewer view (v ∷ vs) e =
    elim (nat_lt viewer v.viewer) as (λ b. nat_lt viewer v.viewer ≡ b → rises
    (viewers_of (if b then seen_by viewer view ∷ v ∷ vs
    else if viewer == v.viewer then seen_by viewer view ∷ vs
    else v ∷ with_view viewer view vs)) ≡ true) [
      | true ↦ λ l.
          let below : viewer < v.viewer = ltb-true viewer v.viewer l in
          and_both (list_all (nat_lt viewer) (viewers_of (v ∷ vs))) _
          (and_both (nat_lt viewer v.viewer) _ l
          (above_lesser viewer v.viewer (viewers_of vs) below (and_left _ _ e))) e
      | false ↦ λ l. elim (viewer == v.viewer) as (λ b. (viewer == v.viewer) ≡ b → rises
          (viewers_of (if b then seen_by viewer view ∷ vs else v ∷ with_view viewer view vs))
          ≡ true) [
            | true ↦ λ same.
                ap (λ n. list_all (nat_lt n) (viewers_of vs) && rises (viewers_of vs))
                (eqb-true viewer v.viewer same) ∙ e
            | false ↦ λ apart.
                and_both (list_all (nat_lt v.viewer) (viewers_of (with_view viewer view vs))) _
                (above_all v.viewer viewer view vs (other_above viewer v.viewer l apart)
                (and_left _ _ e))
                (with_view_rises viewer view vs
                (and_right (list_all (nat_lt v.viewer) (viewers_of vs)) _ e))
          ] refl
    ] refl

pub viewers_step : (s : State) (e : Entry) → allowed s e ≡ true
    → rises (viewers_of s.views) ≡ true → rises (viewers_of (after s e).views) ≡ true
viewers_step s (Opened root bytes budget order) a p = p
viewers_step s (Looked pass id viewer view settled) a p = with_view_rises viewer view s.views p
viewers_step s (LookRefused pass viewer view settled why) a p =
    with_view_rises viewer view s.views p
viewers_step s (Returned pass id) a p = p
viewers_step s (Taken pass key) a p = p
viewers_step s (DocumentArrived pass key bytes) a p = p
viewers_step s (ContentArrived pass address size digest out) a p = p
viewers_step s (Squeezed pass address size) a p = p
viewers_step s (Absent pass key why) a p = p
viewers_step s (Failed pass key count) a p = p
viewers_step s (Starved pass key) a p = p
viewers_step s (Retried pass) a p = p
viewers_step s (Closed pass) a p = p
