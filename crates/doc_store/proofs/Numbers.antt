-- Documents by number.
use Rattle.std.proofs.Common.{ℕ, ◌+◌, ◌<◌, ◌≡◌, Bool, true, false, not, cond, Some}
use Rattle.std.proofs.Common.{None, List, [], ◌∷◌, length, map, position, slice_get, nat_lt}
use Rattle.std.proofs.Common.{get_or, refl, sym, ◌∙◌, ap, ltb-true, zero, suc, ◌++◌, eqb}
use Rattle.std.proofs.Common.{length-append, arith}
use Rattle.std.specs.List.{position_or_len, prefix_len}
use Rattle.std.specs.Map.{keys_of}
use Rattle.std.proofs.lemmas.List.{length-map}
use Rattle.std.proofs.lemmas.Bool.{lt-ltb, ne_eqb}
use Rattle.std.proofs.lemmas.List.Folds.{position_or_len_push}
use Rattle.std.proofs.lemmas.List.Sums.{passes_at_first}
use Rattle.std.proofs.lemmas.Option.{get_or_from_slice_get}
use Rattle.tile_types.specs.declared.key.Key.{Key}
use Rattle.tile_types.specs.Keys.{same_key}
use Rattle.doc_store.specs.Kept.{Entry, loaded_of}
use Rattle.tile_types.proofs.Keys.{key_is}

-- ---- places in mapped lists

prefix_len-map : {A B : Type 0} (f : A → B) (p : B → Bool) (xs : List A)
    → prefix_len p (map f xs) ≡ prefix_len (λ x. p (f x)) xs
prefix_len-map f p [] = refl
prefix_len-map f p (x ∷ xs) = ap (λ n. cond (p (f x)) (1 + n) 0) (prefix_len-map f p xs)

position-map : {A B : Type 0} (f : A → B) (p : B → Bool) (xs : List A)
    → position p (map f xs) ≡ position (λ x. p (f x)) xs
position-map f p xs =
    ap (λ n. cond (nat_lt n (length (map f xs))) (Some n) None)
    (prefix_len-map f (λ y. not (p y)) xs)
    ∙ ap (λ n. cond (nat_lt (position_or_len (λ x. p (f x)) xs) n)
    (Some (position_or_len (λ x. p (f x)) xs)) None) (length-map xs f)

-- the place of a key among the keys is that of its document among the loaded ones
pub numbers_agree : (es : List Entry) (key : Key) (is : Key → Bool) → is ≡ same_key key
    → position is (keys_of es) ≡ position (λ l. same_key key l.key) (map loaded_of es)
numbers_agree es key is same =
    ap (λ p. position p (keys_of es)) same
    ∙ position-map (λ e. e.0) (same_key key) es
    ∙ sym (position-map loaded_of (λ l. same_key key l.key) es)

-- ---- what stands at the place that is found

found_place : {A : Type 0} (p : A → Bool) (xs : List A) (n : ℕ) → position p xs ≡ Some n
    → (nat_lt (position_or_len p xs) (length xs) ≡ true) × (position_or_len p xs ≡ n)
found_place p xs n e =
    elim (nat_lt (position_or_len p xs) (length xs)) as (λ b.
    cond b (Some (position_or_len p xs)) None ≡ Some n → (b ≡ true) × (position_or_len p xs ≡ n)) [
      | true ↦ λ h. (refl, cc)
      | false ↦ λ h. cc
    ] e

position_passes : {A : Type 0} (p : A → Bool) (xs : List A) (n : ℕ) (x : A)
    → position p xs ≡ Some n → slice_get xs n ≡ Some x → p x ≡ true
position_passes p xs n x e at =
    let place = found_place p xs n e in
    let within : position_or_len p xs < length xs = ltb-true _ _ place.0 in
    ap p (sym (get_or_from_slice_get xs n x x at) ∙ ap (λ i. get_or xs i x) (sym place.1))
    ∙ passes_at_first p xs x within

-- the document of this number is that of this key
pub number_names : (es : List Entry) (key : Key) (n : ℕ) (entry : Entry)
    → position (λ l. same_key key l.key) (map loaded_of es) ≡ Some n
    → slice_get es n ≡ Some entry → key ≡ entry.0
number_names es key n entry e at =
    key_is key entry.0 (position_passes (λ x. same_key key x.0) es n entry
    (sym (position-map loaded_of (λ l. same_key key l.key) es) ∙ e) at)

-- ---- while documents are added

pub place_stays : {A : Type 0} (p : A → Bool) (xs : List A) (y : A) (n : ℕ)
    → position p xs ≡ Some n → position p (xs ++ y ∷ []) ≡ Some n
place_stays p xs y n e =
    let place = found_place p xs n e in
    let within : position_or_len p xs < length xs = ltb-true _ _ place.0 in
    let apart : eqb (position_or_len p xs) (length xs) ≡ false =
    ne_eqb _ _ (λ same. omega (arith, within, same)) in
    let same : position_or_len p (xs ++ y ∷ []) ≡ n =
    position_or_len_push p xs y
    ∙ ap (λ b. cond b (length xs + cond (p y) 0 1) (position_or_len p xs)) apart ∙ place.1 in
    let inside : n < length (xs ++ y ∷ []) =
    omega (arith, length-append xs (y ∷ []), within, place.1) in
    ap (λ i. cond (nat_lt i (length (xs ++ y ∷ []))) (Some i) None) same
    ∙ ap (λ b. cond b (Some n) None) (lt-ltb n (length (xs ++ y ∷ [])) inside)

pub document_stays : {A : Type 0} (xs : List A) (y : A) (n : ℕ) → n < length xs
    → slice_get (xs ++ y ∷ []) n ≡ slice_get xs n
document_stays [] y n within = absurd (omega arith)
document_stays (x ∷ xs) y zero within = refl
document_stays (x ∷ xs) y (suc n) within = document_stays xs y n (omega arith)
