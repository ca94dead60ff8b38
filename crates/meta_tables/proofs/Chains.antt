-- Chains of steps, and loops over them.
use Rattle.std.proofs.Common.{◌≡◌, List, [], ◌∷◌, ◌++◌, Ok, Err, refl, ap, sym, subst, append_assoc}
use Rattle.std.specs.List.{All}
use Rattle.std.proofs.lemmas.List.Elements.{All-nil, All-cons}
use Rattle.meta_tables.specs.Causes.{Read, ◌>>=◌, each, Fails}
use Rattle.meta_tables.specs.declared.error.TableError.{TableError}
use Rattle.meta_tables.specs.declared.error.TableError.TheVariants as cause

-- a cause stays the first one, whatever comes behind
pub fails_first : {A B : Type 0} (e : TableError) (read : Read A) (next : A → Read B)
    → Fails e read → Fails e (read >>= next)
fails_first cause.OutOfMemory read next h = tt
fails_first e read next h = ap (λ r. r >>= next) h

pub fails_same : {A : Type 0} (e : TableError) (read other : Read A) → read ≡ other
    → Fails e read → Fails e other
fails_same {A = A} e read other same h = let P : Read A → Type 0 = Fails e in subst P same h

pub fails_is : {A : Type 0} (e : TableError) (read : Read A) → read ≡ Err e → Fails e read
fails_is cause.OutOfMemory read h = tt
fails_is e read h = h

-- where all is read, so is each step of it
pub then_ok : {A B P : Type 0} (r : Read A) (f : A → Read B) (y : B) → (r >>= f) ≡ Ok y
    → ((x : A) → r ≡ Ok x → f x ≡ Ok y → P) → P
then_ok (Ok x) f y h go = go x refl h
then_ok (Err e) f y h go = cc

-- ---- one after another

-- what was read before, and what is still read
abbrev pub behind : {B : Type 0} → List B → Read (List B) → Read (List B)
behind front read = read >>= λ ys. Ok (front ++ ys)

-- one more is read
pub behind_more : {A B : Type 0} (read : A → Read B) (x : A) (left : List A) (front new : List B)
    (y : B) → read x ≡ Ok y → new ≡ front ++ y ∷ []
    → behind front (each read (x ∷ left)) ≡ behind new (each read left)
behind_more {B = B} read x left front new y e added = rw (e, added) (go (each read left))
  where
    go : (r : Read (List B))
        → behind front (r >>= λ ys. Ok (y ∷ ys)) ≡ behind (front ++ y ∷ []) r
    go (Ok ys) = ap Ok (sym (append_assoc front (y ∷ []) ys))
    go (Err e) = refl

-- what is left fails, so all of it does
pub left_fails : {A B : Type 0} (read : A → Read B) (front : List B) (x : A) (left all : List A)
    (e : TableError) → behind front (each read (x ∷ left)) ≡ each read all → Fails e (read x)
    → Fails e (each read all)
left_fails read front x left all e same h =
    fails_same e _ _ same
    (fails_first e (each read (x ∷ left)) _ (fails_first e (read x) _ h))

-- what is so of whatever is read is so of each
pub each_is : {A B : Type 0} (read : A → Read B) (P : B → Type 0)
    (is : (x : A) (y : B) → read x ≡ Ok y → P y) (xs : List A) (ys : List B)
    → each read xs ≡ Ok ys → All P ys
each_is read P is [] ys h = let same : [] ≡ ys = cc in subst (All P) same (All-nil P)
each_is read P is (x ∷ xs) ys h =
    then_ok (read x) _ ys h λ y e h. then_ok (each read xs) _ ys h λ rest f h.
    let same : y ∷ rest ≡ ys = cc in
    subst (All P) same (All-cons P y rest (is x y e) (each_is read P is xs rest f))
