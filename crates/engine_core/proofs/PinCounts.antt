-- How often addresses are pinned.
use Rattle.std.specs.Prelude.{if◌then◌else◌}
use Rattle.std.proofs.Common.{ℕ, ◌+◌, ◌≤◌, ◌≡◌, Bool, true, false, List, [], ◌∷◌, ◌++◌, length, ap, arith}
use Rattle.tile_cache.specs.Pins.{times}
use Rattle.tile_cache.specs.Residents.{same_text}
use Rattle.tile_cache.proofs.Texts.{text_refl}

-- how often an address is one address
abbrev pub once : List ℕ → List ℕ → ℕ
once a x = times a (x ∷ [])

pub times_cons : (a x : List ℕ) (xs : List (List ℕ))
    → times a (x ∷ xs) ≡ once a x + times a xs
times_cons a x xs = by (same_text x a)
  where
    by : (b : Bool) → (if b then times a xs + 1 else times a xs) ≡ (if b then 1 else 0) + times a xs
    by true = omega arith
    by false = omega arith

pub times_self : (x : List ℕ) → once x x ≡ 1
times_self x = ap (λ b. if b then 1 else 0) (text_refl x)

pub times_append : (a : List ℕ) (xs ys : List (List ℕ))
    → times a (xs ++ ys) ≡ times a xs + times a ys
times_append a [] ys = omega arith
times_append a (x ∷ xs) ys =
    let rest = times_append a xs ys in
    let one = times_cons a x (xs ++ ys) in
    let two = times_cons a x xs in
    omega arith

-- an address stands there no more often than there are any
pub times_few : (a : List ℕ) (xs : List (List ℕ)) → times a xs ≤ length xs
times_few a [] = omega arith
times_few a (x ∷ xs) = by (same_text x a) (times_few a xs)
  where
    by : (b : Bool) → times a xs ≤ length xs
        → (if b then times a xs + 1 else times a xs) ≤ length (x ∷ xs)
    by true h = omega arith
    by false h = omega arith
