-- A view in the place of the viewer's earlier one.
use Rattle.std.specs.Prelude.{if◌then◌else◌}
use Rattle.std.proofs.Common.{ℕ, suc, ◌+◌, ◌≤◌, ◌<◌, ◌≡◌, ◌==◌, Bool, true, false, cond, List, [], ◌∷◌, ◌++◌, nat_lt, take, drop, refl, sym, ◌∙◌, ap, arith, ltb-true, ltb-false, lt-ltb, eqb-true, eq-eqb, append_assoc}
use Rattle.std.proofs.lemmas.Bool.{eqb-false}
use Rattle.std.specs.List.{prefix_len}
use Rattle.error_test.specs.Views.{ViewParts}
use Rattle.engine_state.specs.declared.seen.Seen.{Seen}
use Rattle.engine_state.specs.Views.{seen_by, with_view}
use Rattle.engine_core.specs.Looking.{is_viewer_at}

-- how many views are of viewers before this one
abbrev pub earlier : List Seen → ℕ → ℕ
earlier views viewer = prefix_len (λ seen. nat_lt seen.viewer viewer) views

-- the views behind the viewer's own begin there
abbrev pub end_of : List Seen → ℕ → ℕ → ℕ
end_of views viewer at = at + (if is_viewer_at views viewer at then 1 else 0)

not_above : (a b : ℕ) → a ≤ b → nat_lt b a ≡ false
not_above a b h = by (nat_lt b a) refl
  where
    by : (t : Bool) → nat_lt b a ≡ t → nat_lt b a ≡ false
    by true e = let above = ltb-true b a e in absurd (omega arith)
    by false e = e

apart : (a b : ℕ) → a < b → (b == a) ≡ false
apart a b h = by (b == a) refl
  where
    by : (t : Bool) → (b == a) ≡ t → (b == a) ≡ false
    by true e = let same = eqb-true b a e in absurd (omega arith)
    by false e = e

-- what stands before it, the view, and what stands behind it
pub put_between : (viewer : ℕ) (view : ViewParts) (views : List Seen)
    → take (earlier views viewer) views
    ++ seen_by viewer view ∷ drop (end_of views viewer (earlier views viewer)) views
    ≡ with_view viewer view views
put_between viewer view [] = refl
put_between viewer view (seen ∷ rest) =
    by (nat_lt seen.viewer viewer) refl (put_between viewer view rest)
  where
    earlier_one : seen.viewer < viewer
        → (if nat_lt viewer seen.viewer then seen_by viewer view ∷ seen ∷ rest
        else if viewer == seen.viewer then seen_by viewer view ∷ rest
        else seen ∷ with_view viewer view rest) ≡ seen ∷ with_view viewer view rest
    earlier_one h =
        ap (λ b. if b then seen_by viewer view ∷ seen ∷ rest
        else if viewer == seen.viewer then seen_by viewer view ∷ rest
        else seen ∷ with_view viewer view rest) (not_above seen.viewer viewer (omega arith))
        ∙ ap (λ b. if b then seen_by viewer view ∷ rest
        else seen ∷ with_view viewer view rest) (apart seen.viewer viewer h)

    -- of the viewer itself, or of a later one
    at_once : viewer ≤ seen.viewer → (own : Bool) → (seen.viewer == viewer) ≡ own
        → seen_by viewer view ∷ drop (0 + (if own then 1 else 0)) (seen ∷ rest)
        ≡ with_view viewer view (seen ∷ rest)
    at_once h true e =
        let same : seen.viewer ≡ viewer = eqb-true seen.viewer viewer e in
        sym (ap (λ b. if b then seen_by viewer view ∷ seen ∷ rest
        else if viewer == seen.viewer then seen_by viewer view ∷ rest
        else seen ∷ with_view viewer view rest) (not_above seen.viewer viewer (omega arith))
        ∙ ap (λ b. if b then seen_by viewer view ∷ rest
        else seen ∷ with_view viewer view rest) (eq-eqb viewer seen.viewer (sym same)))
    at_once h false e =
        let other : viewer < seen.viewer = later h e in
        sym (ap (λ b. if b then seen_by viewer view ∷ seen ∷ rest
        else if viewer == seen.viewer then seen_by viewer view ∷ rest
        else seen ∷ with_view viewer view rest) (lt-ltb viewer seen.viewer other))
      where
        later : viewer ≤ seen.viewer → (seen.viewer == viewer) ≡ false → viewer < seen.viewer
        later le ne = from (nat_lt viewer seen.viewer) refl
          where
            from : (t : Bool) → nat_lt viewer seen.viewer ≡ t → viewer < seen.viewer
            from true k = ltb-true viewer seen.viewer k
            from false k =
                let ge = ltb-false viewer seen.viewer k in
                absurd (eqb-false seen.viewer viewer ne (omega arith))

    by : (b : Bool) → nat_lt seen.viewer viewer ≡ b
        → take (earlier rest viewer) rest
        ++ seen_by viewer view ∷ drop (end_of rest viewer (earlier rest viewer)) rest
        ≡ with_view viewer view rest
        → take (cond b (1 + earlier rest viewer) 0) (seen ∷ rest)
        ++ seen_by viewer view
        ∷ drop (end_of (seen ∷ rest) viewer (cond b (1 + earlier rest viewer) 0)) (seen ∷ rest)
        ≡ with_view viewer view (seen ∷ rest)
    by true e again =
        let n = earlier rest viewer in
        let more : 1 + n ≡ suc n = omega arith in
        let end : suc n + (if is_viewer_at rest viewer n then 1 else 0)
        ≡ suc (end_of rest viewer n) = omega arith in
        ap (λ k. take k (seen ∷ rest) ++ seen_by viewer view
        ∷ drop (end_of (seen ∷ rest) viewer k) (seen ∷ rest)) more
        ∙ ap (λ k. take (suc n) (seen ∷ rest) ++ seen_by viewer view ∷ drop k (seen ∷ rest)) end
        ∙ ap (λ xs. seen ∷ xs) again
        ∙ sym (earlier_one (ltb-true seen.viewer viewer e))
    by false e again = at_once (ltb-false seen.viewer viewer e) (seen.viewer == viewer) refl

-- put together piece by piece
pub put_together : (views : List Seen) (viewer : ℕ) (view : ViewParts) (at end : ℕ)
    (front more whole : List Seen) → at ≡ earlier views viewer → end ≡ end_of views viewer at
    → front ≡ take at views → more ≡ front ++ seen_by viewer view ∷ []
    → whole ≡ more ++ drop end views → whole ≡ with_view viewer view views
put_together views viewer view at end front more whole a e f m w =
    w ∙ ap (λ xs. xs ++ drop end views) m
    ∙ append_assoc front (seen_by viewer view ∷ []) (drop end views)
    ∙ ap (λ xs. xs ++ seen_by viewer view ∷ drop end views) f
    ∙ ap (λ n. take at views ++ seen_by viewer view ∷ drop n views) e
    ∙ ap (λ n. take n views ++ seen_by viewer view ∷ drop (end_of views viewer n) views) a
    ∙ put_between viewer view views
