-- Chains of steps, and loops over them.
use Rattle.std.proofs.Common.{◌≡◌, ◌<◌, List, [], ◌∷◌, ◌++◌, Some, Ok, Err, Result, length, refl, ap, sym, ◌∙◌, subst, append_assoc, arith}
use Rattle.json_decimal.specs.Parts.{split_first}
use Rattle.json_decimal.proofs.Parted.{split_some}
use Rattle.tileset_schema.specs.Causes.{Read, ◌>>=◌, each, Fails, Gives}
use Rattle.tileset_schema.specs.Uris.{done}
use Rattle.tileset_schema.specs.declared.error.DocumentError.{DocumentError}
use Rattle.tileset_schema.specs.declared.error.DocumentError.TheVariants as cause

-- a cause stays the first one, whatever comes behind
pub fails_first : {A B : Type 0} (e : DocumentError) (read : Read A) (next : A → Read B)
    → Fails e read → Fails e (read >>= next)
fails_first cause.OutOfMemory read next h = tt
fails_first e read next h = ap (λ r. r >>= next) h

pub fails_same : {A : Type 0} (e : DocumentError) (read other : Read A) → read ≡ other
    → Fails e read → Fails e other
fails_same {A = A} e read other same h = let P : Read A → Type 0 = Fails e in subst P same h

pub fails_is : {A : Type 0} (e : DocumentError) (read : Read A) → read ≡ Err e → Fails e read
fails_is cause.OutOfMemory read h = tt
fails_is e read h = h

pub gives_same : {X A : Type 0} (view : X → A) (result : Result X DocumentError)
    (read other : Read A)
    → read ≡ other → Gives view result read → Gives view result other
gives_same {A = A} view result read other same h = let P : Read A → Type 0 = Gives view result in
    subst P same h

-- ---- one after another

-- what was read before, and what is still read
abbrev pub behind : {B : Type 0} → List B → Read (List B) → Read (List B)
behind front read = read >>= λ ys. Ok (front ++ ys)

-- one that is taken from those that are left
pub shorter : {A : Type 0} (rest left : List A) (x : A) → Some (x, left) ≡ split_first rest
    → length left < length rest
shorter rest left x h = omega (arith, ap length (split_some rest left x h))

module _ (A B : Type 0) (read : A → Read B) (rest left : List A) (x : A)
    (first : Some (x, left) ≡ split_first rest) where
  opened : each read rest ≡ (read x >>= λ y. each read left >>= λ ys. Ok (y ∷ ys))
  opened = ap (each read) (split_some rest left x first)

  pub done_more : (y : B) → Ok y ≡ read x → done (each read rest) ≡ done (each read left)
  done_more y e = ap done opened ∙ rw (← e) (go (each read left))
    where
      go : (r : Read (List B)) → done (r >>= λ ys. Ok (y ∷ ys)) ≡ done r
      go (Ok ys) = refl
      go (Err e) = refl

  pub done_not : (e : DocumentError) → Err e ≡ read x → done (each read rest) ≡ Err e
  done_not e h = ap done opened ∙ rw (← h) refl

  pub behind_more : (front new : List B) (y : B) → read x ≡ Ok y → new ≡ front ++ y ∷ []
      → behind front (each read rest) ≡ behind new (each read left)
  behind_more front new y e added = ap (behind front) opened ∙ rw (e, added) (go (each read left))
    where
      go : (r : Read (List B))
          → behind front (r >>= λ ys. Ok (y ∷ ys)) ≡ behind (front ++ y ∷ []) r
      go (Ok ys) = ap Ok (sym (append_assoc front (y ∷ []) ys))
      go (Err e) = refl

  pub first_fails : (e : DocumentError) → Fails e (read x) → Fails e (each read rest)
  first_fails e h = fails_same e _ _ (sym opened) (fails_first e (read x) _ h)

  pub more_fail : (y : B) (e : DocumentError) → read x ≡ Ok y → Fails e (each read left)
      → Fails e (each read rest)
  more_fail y e h k = fails_same e _ _ (sym (opened ∙ rw h refl))
      (fails_first e (each read left) (λ ys. Ok (y ∷ ys)) k)

  pub all_read : (y : B) (ys : List B) → read x ≡ Ok y → each read left ≡ Ok ys
      → each read rest ≡ Ok (y ∷ ys)
  all_read y ys h k = opened ∙ rw (h, k) refl

-- each of two steps for all, or both for each
module _ (A B C : Type 0) (f : A → Read B) (g : B → Read C) where
  pub each_then : (xs : List A) (ys : List B) → each f xs ≡ Ok ys
      → each (λ x. f x >>= g) xs ≡ each g ys
  each_then [] ys e = let same : [] ≡ ys = cc in ap (each g) same
  each_then (x ∷ xs) ys e = go (λ us h. each_then xs us h) (f x) (each f xs) refl refl e
    where
      go : ((us : List B) → each f xs ≡ Ok us → each (λ x. f x >>= g) xs ≡ each g us)
          → (r : Read B) (s : Read (List B)) → f x ≡ r → each f xs ≡ s
          → (r >>= λ y. s >>= λ us. Ok (y ∷ us)) ≡ Ok ys
          → each (λ x. f x >>= g) (x ∷ xs) ≡ each g ys
      go below (Err e) s h k j = cc
      go below (Ok y) (Err e) h k j = cc
      go below (Ok y) (Ok us) h k j =
          let same : (y ∷ us) ≡ ys = cc in
          rw (h, below us k) (ap (each g) same)
