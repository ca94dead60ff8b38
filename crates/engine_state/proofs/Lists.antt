-- Tests of lists, taken apart and put together.
use Rattle.std.specs.Prelude.{if◌then◌else◌}
use Rattle.std.proofs.Common.{ℕ, ◌+◌, ◌≤◌, ◌≡◌, Bool, true, false, not, ◌&&◌, ◌||◌, cond, List, [], ◌∷◌, ◌++◌, length, filter, refl, ◌∙◌, ap, arith, ◌⊎◌, inl, inr}
use Rattle.std.specs.List.{list_all, list_any}
use Rattle.std.specs.Cmp.Lexicographic.{pointwise}
use Rattle.std.proofs.lemmas.List.Folds.{list_all-append}
use Rattle.tile_cache.specs.Residents.{same_text}
use Rattle.tile_cache.proofs.Texts.{or_left, or_right, not_true, text_is}
use Rattle.cut_core.proofs.Bools.{and_left, and_right}
use Rattle.engine_state.specs.After.{without_first}

pub and_both : (a b : Bool) → a ≡ true → b ≡ true → (a && b) ≡ true
and_both a b p q = ap (λ x. x && b) p ∙ q

pub or_cases : (a b : Bool) → (a || b) ≡ true → (a ≡ true) ⊎ (b ≡ true)
or_cases true b p = inl refl
or_cases false b p = inr p

pub texts_are : (xs ys : List (List ℕ)) → pointwise same_text xs ys ≡ true → xs ≡ ys
texts_are [] [] e = refl
texts_are [] (y ∷ ys) e = cc
texts_are (x ∷ xs) [] e = cc
texts_are (x ∷ xs) (y ∷ ys) e =
    ap (λ z. z ∷ xs) (text_is x y (and_left _ _ e))
    ∙ ap (λ zs. y ∷ zs) (texts_are xs ys (and_right (same_text x y) _ e))

-- ---- all and any

pub all_both : {A : Type 0} (p : A → Bool) (xs ys : List A)
    → list_all p xs ≡ true → list_all p ys ≡ true → list_all p (xs ++ ys) ≡ true
all_both p xs ys h k = list_all-append p xs ys ∙ and_both (list_all p xs) (list_all p ys) h k

pub all_weaker : {A : Type 0} (p q : A → Bool) → ((x : A) → p x ≡ true → q x ≡ true)
    → (xs : List A) → list_all p xs ≡ true → list_all q xs ≡ true
all_weaker p q h [] e = refl
all_weaker p q h (x ∷ xs) e =
    and_both (q x) (list_all q xs) (h x (and_left _ _ e))
    (all_weaker p q h xs (and_right (p x) _ e))

pub all_same : {A : Type 0} (p q : A → Bool) → ((x : A) → p x ≡ q x)
    → (xs : List A) → list_all p xs ≡ list_all q xs
all_same p q h [] = refl
all_same p q h (x ∷ xs) =
    ap (λ b. b && list_all p xs) (h x) ∙ ap (λ b. q x && b) (all_same p q h xs)

pub all_filter : {A : Type 0} (p q : A → Bool) (xs : List A)
    → list_all p xs ≡ true → list_all p (filter q xs) ≡ true
all_filter p q [] e = refl
all_filter p q (x ∷ xs) e =
    elim (q x) as (λ b. list_all p (cond b (x ∷ filter q xs) (filter q xs)) ≡ true) [
      | true ↦ and_both (p x) (list_all p (filter q xs)) (and_left _ _ e)
          (all_filter p q xs (and_right (p x) _ e))
      | false ↦ all_filter p q xs (and_right (p x) _ e)
    ]

pub all_passed : {A : Type 0} (p : A → Bool) (xs : List A) → list_all p (filter p xs) ≡ true
all_passed p [] = refl
all_passed p (x ∷ xs) =
    elim (p x) as (λ b. p x ≡ b
    → list_all p (cond b (x ∷ filter p xs) (filter p xs)) ≡ true) [
      | true ↦ λ e. and_both (p x) (list_all p (filter p xs)) e (all_passed p xs)
      | false ↦ λ e. all_passed p xs
    ] refl

pub all_without_first : {A : Type 0} (p test : A → Bool) (xs : List A)
    → list_all p xs ≡ true → list_all p (without_first test xs) ≡ true
all_without_first p test [] e = refl
all_without_first p test (x ∷ xs) e =
    elim (test x) as (λ b. list_all p (if b then xs else x ∷ without_first test xs) ≡ true) [
      | true ↦ and_right (p x) _ e
      | false ↦ and_both (p x) _ (and_left _ _ e)
          (all_without_first p test xs (and_right (p x) _ e))
    ]

-- the elements that pass and then those that don't
pub any_parts : {A : Type 0} (p q : A → Bool) (xs : List A)
    → (list_any p (filter q xs) || list_any p (filter (λ x. not (q x)) xs)) ≡ list_any p xs
any_parts p q [] = refl
any_parts p q (x ∷ xs) =
    elim (q x) as (λ b.
    (list_any p (cond b (x ∷ filter q xs) (filter q xs))
    || list_any p (cond (not b) (x ∷ filter (λ y. not (q y)) xs) (filter (λ y. not (q y)) xs)))
    ≡ (p x || list_any p xs)) [
      | true ↦ or_assoc (p x) _ _ ∙ ap (λ b. p x || b) (any_parts p q xs)
      | false ↦ or_swap (list_any p (filter q xs)) (p x) _ ∙ ap (λ b. p x || b) (any_parts p q xs)
    ]
  where
    or_assoc : (a b c : Bool) → ((a || b) || c) ≡ (a || (b || c))
    or_assoc true b c = refl
    or_assoc false b c = refl

    or_swap : (a b c : Bool) → (a || (b || c)) ≡ (b || (a || c))
    or_swap true true c = refl
    or_swap true false c = refl
    or_swap false true c = refl
    or_swap false false c = refl

-- what is found is left by a filter that it passes
pub any_kept : {A : Type 0} (p q : A → Bool) → ((x : A) → p x ≡ true → q x ≡ true)
    → (xs : List A) → list_any p xs ≡ true → list_any p (filter q xs) ≡ true
any_kept p q h [] e = cc
any_kept p q h (x ∷ xs) e =
    elim (q x) as (λ b. q x ≡ b
    → list_any p (cond b (x ∷ filter q xs) (filter q xs)) ≡ true) [
      | true ↦ λ r. elim (or_cases (p x) _ e) [
        | inl here ↦ or_left (p x) _ here
        | inr later ↦ or_right (p x) _ (any_kept p q h xs later)
      ]
      | false ↦ λ r. elim (or_cases (p x) _ e) [
        | inl here ↦ let passes = h x here in cc
        | inr later ↦ any_kept p q h xs later
      ]
    ] refl

pub none_any : {A : Type 0} (p : A → Bool) (xs : List A)
    → list_any p xs ≡ false → list_all (λ x. not (p x)) xs ≡ true
none_any p [] e = refl
none_any p (x ∷ xs) e =
    elim (p x) as (λ b. (b || list_any p xs) ≡ false
    → (not b && list_all (λ y. not (p y)) xs) ≡ true) [
      | true ↦ λ h. cc
      | false ↦ λ h. none_any p xs h
    ] e

-- of elements that all pass p, one that passes q passes both
pub some_both : {A : Type 0} (p q : A → Bool) (xs : List A)
    → list_all p xs ≡ true → list_any q xs ≡ true → (x : A) × (p x ≡ true) × (q x ≡ true)
some_both p q [] e h = cc
some_both p q (x ∷ xs) e h = elim (or_cases (q x) _ h) [
  | inl here ↦ (x, and_left _ _ e, here)
  | inr later ↦ some_both p q xs (and_right (p x) _ e) later
]

-- an address that passes isn't among those that don't
pub not_among : (p : List ℕ → Bool) (a : List ℕ) (xs : List (List ℕ))
    → p a ≡ true → list_all (λ x. not (p x)) xs ≡ true → list_any (same_text a) xs ≡ false
not_among p a [] e h = refl
not_among p a (x ∷ xs) e h =
    elim (same_text a x) as (λ b. same_text a x ≡ b
    → (b || list_any (same_text a) xs) ≡ false) [
      | true ↦ λ s.
          let same : p a ≡ p x = ap p (text_is a x s) in
          let none = and_left _ _ h in
          let not_x = not_true (p x) none in
          cc
      | false ↦ λ s. not_among p a xs e (and_right (not (p x)) _ h)
    ] refl

pub length_without_first : {A : Type 0} (test : A → Bool) (xs : List A)
    → length xs ≤ length (without_first test xs) + 1
length_without_first test [] = omega arith
length_without_first test (x ∷ xs) =
    let ih = length_without_first test xs in
    elim (test x) as (λ b.
    length (x ∷ xs) ≤ length (if b then xs else x ∷ without_first test xs) + 1) [
      | true ↦ omega arith
      | false ↦ omega arith
    ]

pub shorter_without_first : {A : Type 0} (test : A → Bool) (xs : List A)
    → length (without_first test xs) ≤ length xs
shorter_without_first test [] = omega arith
shorter_without_first test (x ∷ xs) =
    let ih = shorter_without_first test xs in
    elim (test x) as (λ b.
    length (if b then xs else x ∷ without_first test xs) ≤ length (x ∷ xs)) [
      | true ↦ omega arith
      | false ↦ omega arith
    ]
