-- Elements of lists by their places.
use Rattle.std.proofs.Common.{ℕ, zero, suc, ◌⊎◌, inl, inr, ◌≡◌, ◌+◌, ◌<◌, Some, List, [], ◌∷◌, ◌++◌, length, drop, take, refl, sym, ◌∙◌, ap, arith}
use Rattle.std.specs.List.{slice_get}

pub slice_get-drop : {A : Type 0} (xs : List A) (k j : ℕ)
    → slice_get (drop k xs) j ≡ slice_get xs (k + j)
slice_get-drop xs zero j = ap (slice_get xs) (omega arith)
slice_get-drop [] (suc k) j = refl
slice_get-drop (x ∷ xs) (suc k) j =
    slice_get-drop xs k j ∙ sym (ap (slice_get (x ∷ xs)) (suc-add k j))
  where
    suc-add : (a b : ℕ) → suc a + b ≡ suc (a + b)
    suc-add a b = omega arith

pub some_there : {A : Type 0} (xs : List A) (i : ℕ) → i < length xs
    → (x : A) × (slice_get xs i ≡ Some x)
some_there [] i h = absurd (omega arith)
some_there (x ∷ xs) zero h = (x, refl)
some_there (x ∷ xs) (suc i) h = some_there xs i (omega arith)

pub slice_get-left : {A : Type 0} (xs ys : List A) (i : ℕ) (x : A) → slice_get xs i ≡ Some x
    → slice_get (xs ++ ys) i ≡ Some x
slice_get-left [] ys i x e = cc
slice_get-left (y ∷ xs) ys zero x e = e
slice_get-left (y ∷ xs) ys (suc i) x e = slice_get-left xs ys i x e

pub slice_get-last : {A : Type 0} (xs : List A) (y : A)
    → slice_get (xs ++ y ∷ []) (length xs) ≡ Some y
slice_get-last [] y = refl
slice_get-last (x ∷ xs) y = slice_get-last xs y

-- an element of a list with one more is one of the list, or the last
pub one_more : {A : Type 0} (xs : List A) (y : A) (i : ℕ) (x : A)
    → slice_get (xs ++ y ∷ []) i ≡ Some x
    → (slice_get xs i ≡ Some x) ⊎ ((i ≡ length xs) × (x ≡ y))
one_more [] y zero x e = inr (refl, cc)
one_more [] y (suc i) x e = cc
one_more (z ∷ xs) y zero x e = inl e
one_more (z ∷ xs) y (suc i) x e = go (one_more xs y i x e)
  where
    go : ((slice_get xs i ≡ Some x) ⊎ ((i ≡ length xs) × (x ≡ y)))
        → ((slice_get xs i ≡ Some x) ⊎ ((suc i ≡ suc (length xs)) × (x ≡ y)))
    go (inl h) = inl h
    go (inr h) = inr (ap suc h.0, h.1)

pub slice_get-take : {A : Type 0} (xs : List A) (k j : ℕ) → j < k
    → slice_get (take k xs) j ≡ slice_get xs j
slice_get-take xs zero j h = absurd (omega arith)
slice_get-take [] (suc k) j h = refl
slice_get-take (x ∷ xs) (suc k) zero h = refl
slice_get-take (x ∷ xs) (suc k) (suc j) h = slice_get-take xs k j (omega arith)
