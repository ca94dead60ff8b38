-- The first element that passes a test.
use Rattle.std.specs.Prelude.{if◌then◌else◌}
use Rattle.std.proofs.Common.{ℕ, zero, suc, ◌≡◌, ◌+◌, ◌<◌, Bool, true, false, not, cond, Some, None, List, [], ◌∷◌, length, find, remove, get_or, position, nat_lt, refl, sym, ◌∙◌, ap, arith}
use Rattle.std.specs.List.{list_any, position_or_len, prefix_len, slice_get}
use Rattle.std.proofs.lemmas.Bool.{lt-ltb}
use Rattle.std.proofs.lemmas.List.Folds.{find_at}
use Rattle.std.proofs.lemmas.List.Quantifiers.{position-Some}
use Rattle.std.proofs.lemmas.Option.{get_or_from_slice_get}
use Rattle.engine_state.specs.After.{without_first}

module _ {A : Type 0} (test : A → Bool) where
  removes_at : (xs : List A) (i : ℕ) (d : A) → i < length xs → test (get_or xs i d) ≡ true
      → ((k : ℕ) → k < i → test (get_or xs k d) ≡ false) → remove xs i ≡ without_first test xs
  removes_at [] i d lt e h = absurd (omega (arith, lt))
  removes_at (x ∷ xs) zero d lt e h =
      ap (λ b. if b then xs else x ∷ without_first test xs) (sym e)
  removes_at (x ∷ xs) (suc i) d lt e h =
      ap (λ ys. x ∷ ys) (removes_at xs i d (omega (arith, lt)) e (λ k g. h (suc k) (omega (arith, g))))
      ∙ ap (λ b. if b then xs else x ∷ without_first test xs) (sym (h zero (omega arith)))

  -- what stands at the place of the first that passes is that one, and without it the list is what
  -- stands beside it
  pub first_passes : (xs : List A) (i : ℕ) (x : A) → position test xs ≡ Some i
      → slice_get xs i ≡ Some x → test x ≡ true
  first_passes xs i x e h =
      ap test (sym (get_or_from_slice_get xs i x x h)) ∙ (position-Some test xs i x e).1

  pub removes_first : (xs : List A) (i : ℕ) (x : A) → position test xs ≡ Some i
      → slice_get xs i ≡ Some x → remove xs i ≡ without_first test xs
  removes_first xs i x e h =
      let at = position-Some test xs i x e in
      removes_at xs i x at.0 at.1 at.2

  before_end : (xs : List A) → list_any test xs ≡ true → position_or_len test xs < length xs
  before_end [] e = cc
  before_end (x ∷ xs) e =
      elim (test x) as (λ b. (test x ≡ b)
      → cond (not b) (1 + prefix_len (λ y. not (test y)) xs) 0 < length (x ∷ xs)) [
        | true ↦ λ h. omega arith
        | false ↦ λ h.
            let rest : list_any test xs ≡ true = cc in
            let less = before_end xs rest in
            omega (arith, less)
      ] refl

  -- where one passes, there is a first one
  pub has_first : (xs : List A) → list_any test xs ≡ true → position test xs ≡ None → ⊥
  has_first xs e h =
      let some : nat_lt (position_or_len test xs) (length xs) ≡ true =
      lt-ltb _ _ (before_end xs e) in
      cc

  -- the first that passes is what stands at its place
  pub found_first : (xs : List A) (i : ℕ) (x : A) → position test xs ≡ Some i
      → slice_get xs i ≡ Some x → find test xs ≡ Some x
  found_first xs i x e h =
      let place : position_or_len test xs ≡ i = by (nat_lt (position_or_len test xs) (length xs)) e in
      find_at test xs ∙ ap (slice_get xs) place ∙ h
    where
      by : (b : Bool) → cond b (Some (position_or_len test xs)) None ≡ Some i
          → position_or_len test xs ≡ i
      by true k = cc
      by false k = cc
