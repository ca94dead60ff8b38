-- How far bytes of a class go, told by a block of them or by a mask.
use Rattle.std.proofs.Common.{◌≡◌, ℕ, zero, suc, ◌+◌, ◌*◌, ◌/◌, ◌^◌, ◌<◌, ◌≤◌, eqb, List, [], ◌∷◌, ◌++◌, map, length, take, drop, Bool, true, false, cond, not, sym, ap, ◌∙◌, arith}
use Rattle.std.proofs.Math.Nat.{zero-div, div-one, div-div-eq-div-mul, pow-succ', two-pow-succ}
use Rattle.std.proofs.lemmas.Bool.Decides.{nat_tests}
use Rattle.std.proofs.lemmas.List.{take-append-drop, length-take-le}
use Rattle.std.proofs.lemmas.List.Folds.{prefix_len-append}
use Rattle.std.specs.List.{prefix_len}
use lib.Lanes.{mask_l}

first_of : (n m a : ℕ) → n < m → cond (eqb n m) a n ≡ n
first_of n m a h = grind (arith, nat_tests)

second_of : (n m a : ℕ) → n ≡ m → cond (eqb n m) a n ≡ a
second_of n m a h = grind (arith, nat_tests)

module _ {X : Type 0} (p : X → Bool) where
  joined : (m : ℕ) (xs : List X) → m ≤ length xs
      → prefix_len p xs ≡ cond (eqb (prefix_len p (take m xs)) m) (m + prefix_len p (drop m xs))
      (prefix_len p (take m xs))
  joined m xs room =
      ap (prefix_len p) (sym (take-append-drop m xs))
      ∙ prefix_len-append p (take m xs) (drop m xs)
      ∙ ap (λ n. cond (eqb (prefix_len p (take m xs)) n) (n + prefix_len p (drop m xs))
      (prefix_len p (take m xs))) (length-take-le m xs room)

  -- they end within a block
  pub ends_within : (m : ℕ) (xs : List X) → m ≤ length xs → prefix_len p (take m xs) < m
      → prefix_len p xs ≡ prefix_len p (take m xs)
  ends_within m xs room h = joined m xs room ∙ first_of _ m _ h

  -- a block is one of them throughout
  pub goes_on : (m : ℕ) (xs : List X) → m ≤ length xs → prefix_len p (take m xs) ≡ m
      → prefix_len p xs ≡ m + prefix_len p (drop m xs)
  goes_on m xs room h = joined m xs room ∙ second_of _ m _ h

  halved : (b : Bool) (m : ℕ) → (cond b 1 0 + 2 * m) / 2 ≡ m
  halved true m = omega arith
  halved false m = omega arith

  -- the mask of what stands behind i bytes
  pub mask-drop : (i : ℕ) (xs : List X) → mask_l (map p xs) / 2 ^ i ≡ mask_l (map p (drop i xs))
  mask-drop zero xs = div-one (mask_l (map p xs))
  mask-drop (suc i) [] = zero-div (2 ^ suc i)
  mask-drop (suc i) (x ∷ xs) =
      ap (λ n. mask_l (map p (x ∷ xs)) / n) (pow-succ' 2 i)
      ∙ sym (div-div-eq-div-mul (mask_l (map p (x ∷ xs))) 2 (2 ^ i))
      ∙ ap (λ n. n / 2 ^ i) (halved (p x) (mask_l (map p xs)))
      ∙ mask-drop i xs

  -- the mask with one more that passes behind all
  pub mask-push : (x : X) (xs : List X) → p x ≡ true
      → mask_l (map p (xs ++ x ∷ [])) ≡ mask_l (map p xs) + 2 ^ length xs
  mask-push x [] h = ap (λ (b : Bool). cond b 1 0 + 2 * 0) h
  mask-push x (y ∷ ys) h = omega (arith, mask-push x ys h, two-pow-succ (length ys))

  -- that one ends them
  pub ends_pushed : (x : X) (xs : List X) → p x ≡ true
      → prefix_len (λ y. not (p y)) (xs ++ x ∷ []) ≡ prefix_len (λ y. not (p y)) xs
  ends_pushed x [] h = ap (λ (b : Bool). cond (not b) (1 + 0) 0) h
  ends_pushed x (y ∷ ys) h = ap (λ (n : ℕ). cond (not (p y)) (1 + n) 0) (ends_pushed x ys h)
