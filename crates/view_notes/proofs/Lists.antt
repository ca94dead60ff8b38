-- Lists without some of their elements.
use Rattle.std.proofs.Common.{◌≡◌, Bool, true, false, ◌&&◌, ◌||◌, cond, List, [], ◌∷◌, ◌++◌, map, refl, sym, ◌∙◌, ap}
use Rattle.std.specs.List.{list_all, list_any, flat_map, filter}
use Rattle.std.proofs.lemmas.List.Elements.{filter-append}

pub filter_yes : {A : Type 0} (p : A → Bool) (x : A) (xs : List A) → p x ≡ true
    → filter p (x ∷ xs) ≡ x ∷ filter p xs
filter_yes p x xs e = ap (λ b. cond b (x ∷ filter p xs) (filter p xs)) e

pub filter_no : {A : Type 0} (p : A → Bool) (x : A) (xs : List A) → p x ≡ false
    → filter p (x ∷ xs) ≡ filter p xs
filter_no p x xs e = ap (λ b. cond b (x ∷ filter p xs) (filter p xs)) e

and_cond : {A : Type 0} (a b : Bool) (x : A) (xs : List A)
    → cond (a && b) (x ∷ xs) xs ≡ cond b (cond a (x ∷ xs) xs) xs
and_cond true true x xs = refl
and_cond true false x xs = refl
and_cond false true x xs = refl
and_cond false false x xs = refl

filter_cond : {A : Type 0} (p : A → Bool) (b : Bool) (x : A) (xs : List A)
    → filter p (cond b (x ∷ xs) xs) ≡ cond b (cond (p x) (x ∷ filter p xs) (filter p xs))
    (filter p xs)
filter_cond p true x xs = refl
filter_cond p false x xs = refl

pub filter_both : {A : Type 0} (p q : A → Bool) (xs : List A)
    → filter (λ x. p x && q x) xs ≡ filter p (filter q xs)
filter_both p q [] = refl
filter_both p q (x ∷ xs) =
    ap (λ ys. cond (p x && q x) (x ∷ ys) ys) (filter_both p q xs)
    ∙ and_cond (p x) (q x) x (filter p (filter q xs))
    ∙ sym (filter_cond p (q x) x (filter q xs))

map_cond : {A B : Type 0} (f : A → B) (b : Bool) (x : A) (xs : List A)
    → map f (cond b (x ∷ xs) xs) ≡ cond b (f x ∷ map f xs) (map f xs)
map_cond f true x xs = refl
map_cond f false x xs = refl

pub filter-map : {A B : Type 0} (p : B → Bool) (f : A → B) (xs : List A)
    → filter p (map f xs) ≡ map f (filter (λ x. p (f x)) xs)
filter-map p f [] = refl
filter-map p f (x ∷ xs) =
    ap (λ ys. cond (p (f x)) (f x ∷ ys) ys) (filter-map p f xs)
    ∙ sym (map_cond f (p (f x)) x (filter (λ y. p (f y)) xs))

pub filter_none : {A : Type 0} (p : A → Bool) (xs : List A) → list_any p xs ≡ false
    → filter p xs ≡ []
filter_none p [] e = refl
filter_none p (x ∷ xs) e = by (p x) refl e (filter_none p xs)
  where
    by : (b : Bool) → p x ≡ b → (b || list_any p xs) ≡ false
        → (list_any p xs ≡ false → filter p xs ≡ []) → filter p (x ∷ xs) ≡ []
    by true h r rest = cc
    by false h r rest = filter_no p x xs h ∙ rest r

pub filter_all : {A : Type 0} (p : A → Bool) (xs : List A) → list_all p xs ≡ true
    → filter p xs ≡ xs
filter_all p [] e = refl
filter_all p (x ∷ xs) e = by (p x) refl e (filter_all p xs)
  where
    by : (b : Bool) → p x ≡ b → (b && list_all p xs) ≡ true
        → (list_all p xs ≡ true → filter p xs ≡ xs) → filter p (x ∷ xs) ≡ x ∷ xs
    by true h r rest = filter_yes p x xs h ∙ ap (λ ys. x ∷ ys) (rest r)
    by false h r rest = cc

pub list_any_agree : {A : Type 0} (p q : A → Bool) → ((x : A) → p x ≡ q x) → (xs : List A)
    → list_any p xs ≡ list_any q xs
list_any_agree p q e [] = refl
list_any_agree p q e (x ∷ xs) =
    ap (λ b. b || list_any p xs) (e x) ∙ ap (λ b. q x || b) (list_any_agree p q e xs)

pub list_all_agree : {A : Type 0} (p q : A → Bool) → ((x : A) → p x ≡ q x) → (xs : List A)
    → list_all p xs ≡ list_all q xs
list_all_agree p q e [] = refl
list_all_agree p q e (x ∷ xs) =
    ap (λ b. b && list_all p xs) (e x) ∙ ap (λ b. q x && b) (list_all_agree p q e xs)

pub filter-flat_map : {A B : Type 0} (p : B → Bool) (f : A → List B) (xs : List A)
    → filter p (flat_map f xs) ≡ flat_map (λ x. filter p (f x)) xs
filter-flat_map p f [] = refl
filter-flat_map p f (x ∷ xs) =
    filter-append p (f x) (flat_map f xs)
    ∙ ap (λ ys. filter p (f x) ++ ys) (filter-flat_map p f xs)
