-- Chains of steps, and loops over them.
use Rattle.std.proofs.Common.{◌≡◌, ℕ, zero, suc, ◌-◌, ◌<◌, List, [], ◌∷◌, ◌++◌, Some, Ok, Err, length, take, refl, ap, sym, ◌∙◌, subst, append_assoc, arith}
use Rattle.json_decimal.specs.Parts.{split_first}
use Rattle.json_decimal.proofs.Parted.{split_some}
use Rattle.subtree_binary.specs.Causes.{Read, ◌>>=◌, each, Fails}
use Rattle.subtree_binary.specs.declared.error.SubtreeError.{SubtreeError}
use Rattle.subtree_binary.specs.declared.error.SubtreeError.TheVariants as cause

-- a cause stays the first one, whatever comes behind
pub fails_first : {A B : Type 0} (e : SubtreeError) (read : Read A) (next : A → Read B)
    → Fails e read → Fails e (read >>= next)
fails_first cause.OutOfMemory read next h = tt
fails_first e read next h = ap (λ r. r >>= next) h

pub fails_same : {A : Type 0} (e : SubtreeError) (read other : Read A) → read ≡ other
    → Fails e read → Fails e other
fails_same {A = A} e read other same h = let P : Read A → Type 0 = Fails e in subst P same h

pub fails_is : {A : Type 0} (e : SubtreeError) (read : Read A) → read ≡ Err e → Fails e read
fails_is cause.OutOfMemory read h = tt
fails_is e read h = h

-- where all is read, so is each step of it
pub then_ok : {A B P : Type 0} (r : Read A) (f : A → Read B) (y : B) → (r >>= f) ≡ Ok y
    → ((x : A) → r ≡ Ok x → f x ≡ Ok y → P) → P
then_ok (Ok x) f y h go = go x refl h
then_ok (Err e) f y h go = cc

-- ---- one after another

-- what was read before, and what is still read
abbrev pub behind : {B : Type 0} → List B → Read (List B) → Read (List B)
behind front read = read >>= λ ys. Ok (front ++ ys)

-- one that is taken from those that are left
pub shorter : {A : Type 0} (rest left : List A) (x : A) → Some (x, left) ≡ split_first rest
    → length left < length rest
shorter rest left x h = omega (arith, ap length (split_some rest left x h))

module _ (A B : Type 0) (read : A → Read B) (rest left : List A) (x : A)
    (first : Some (x, left) ≡ split_first rest) where
  opened : each read rest ≡ (read x >>= λ y. each read left >>= λ ys. Ok (y ∷ ys))
  opened = ap (each read) (split_some rest left x first)

  pub behind_more : (front new : List B) (y : B) → read x ≡ Ok y → new ≡ front ++ y ∷ []
      → behind front (each read rest) ≡ behind new (each read left)
  behind_more front new y e added = ap (behind front) opened ∙ rw (e, added) (go (each read left))
    where
      go : (r : Read (List B))
          → behind front (r >>= λ ys. Ok (y ∷ ys)) ≡ behind (front ++ y ∷ []) r
      go (Ok ys) = ap Ok (sym (append_assoc front (y ∷ []) ys))
      go (Err e) = refl

  pub first_fails : (e : SubtreeError) → Fails e (read x) → Fails e (each read rest)
  first_fails e h = fails_same e _ _ (sym opened) (fails_first e (read x) _ h)

-- what is left fails, so all of it does
pub left_fails : {A B : Type 0} (read : A → Read B) (front : List B) (rest all : List A)
    (e : SubtreeError)
    → behind front (each read rest) ≡ each read all → Fails e (each read rest)
    → Fails e (each read all)
left_fails read front rest all e same h =
    fails_same e _ _ same (fails_first e (each read rest) _ h)

-- one that is taken from the first of those that are left
pub first_taken : {A : Type 0} (n : ℕ) (rest left : List A) (x : A) → 0 < n
    → Some (x, left) ≡ split_first rest
    → Some (x, take (n - 1) left) ≡ split_first (take n rest)
first_taken zero rest left x some h = absurd (omega arith)
first_taken (suc n) rest left x some h =
    let less : suc n - 1 ≡ n = omega arith in rw (less, split_some rest left x h) refl
