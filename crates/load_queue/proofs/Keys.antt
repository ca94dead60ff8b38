-- Wants that are found by their keys.
use Rattle.std.specs.Prelude.{if◌then◌else◌}
use Rattle.std.proofs.Common.{ℕ, ◌≡◌, ◌+◌, ◌<◌, Bool, true, false, not, cond, Some}
use Rattle.std.proofs.Common.{None, nat_lt, List, [], ◌∷◌, ◌++◌, ◌||◌, length, map, take, drop}
use Rattle.std.proofs.Common.{get_or, position, refl, sym, ◌∙◌, ap, subst, true≢false, arith, zero}
use Rattle.std.proofs.Common.{suc, ltb-true, ltb-false}
use Rattle.std.specs.List.{AllByRecursion, IsDistinct, list_any, position_or_len, prefix_len}
use Rattle.std.proofs.lemmas.List.{drop_more, length-map, take-append-drop, take_more}
use Rattle.std.proofs.lemmas.List.Sums.{fails_before_first, passes_at_first}
use Rattle.indexmap.specs.IndexSet.{insert_key}
use Rattle.std.proofs.Math.ListN as lists
use Rattle.tile_types.specs.declared.key.Key.{Key}
use Rattle.tile_types.specs.declared.want.Want.{Want}
use Rattle.tile_types.specs.contracts.key.KeyPartialEq.TheImpl.{eq-value}
use Rattle.tile_types.specs.contracts.key.KeyEq.TheImpl.Laws.{laws-law}
use Rattle.tile_types.specs.Keys.{same_key}
use Rattle.tile_types.proofs.Keys.{key_eq}

-- ---- which keys are the same

pub same_turned : (a b : Key) → same_key a b ≡ same_key b a
same_turned a b = sym (key_eq a b) ∙ laws-law.symm a b ∙ key_eq b a

same_congr : (a b c : Key) → same_key a b ≡ true → same_key a c ≡ same_key b c
same_congr a b c e = sym (key_eq a c) ∙ laws-law.congr a b c (key_eq a b ∙ e) ∙ key_eq b c

-- of two keys that differ a third is at most one
pub is_not_second : (key a b : Key) → same_key key a ≡ true → same_key a b ≡ false
    → same_key key b ≡ false
is_not_second key a b e other = same_congr key a b e ∙ other

-- ---- places

module _ {A : Type 0} (f : A → Key) where
  prefixes_agree : (p : Key → Bool) (q : A → Bool) → ((a : A) → p (f a) ≡ q a) → (xs : List A)
      → prefix_len (λ k. not (p k)) (map f xs) ≡ prefix_len (λ a. not (q a)) xs
  prefixes_agree p q same [] = refl
  prefixes_agree p q same (x ∷ xs) =
      ap (λ b. cond (not b) (1 + prefix_len (λ k. not (p k)) (map f xs)) 0) (same x)
      ∙ ap (λ n. cond (not (q x)) (1 + n) 0) (prefixes_agree p q same xs)

  places_agree : (p : Key → Bool) (q : A → Bool) → ((a : A) → p (f a) ≡ q a) → (xs : List A)
      → position p (map f xs) ≡ position q xs
  places_agree p q same xs =
      ap (λ n. cond (nat_lt n (length (map f xs))) (Some n) None) (prefixes_agree p q same xs)
      ∙ ap (λ n. cond (nat_lt (position_or_len q xs) n) (Some (position_or_len q xs)) None)
      (length-map xs f)

  -- the place that is found by `==` is that of the key
  pub place_by_key : (key : Key) (xs : List A)
      → position (eq-value.it key) (map f xs) ≡ position (λ a. same_key key (f a)) xs
  place_by_key key xs =
      places_agree (eq-value.it key) (λ a. same_key key (f a)) (λ a. key_eq key (f a)) xs

pub some_is : {m n : ℕ} → Some m ≡ Some n → m ≡ n
some_is e = cc

module _ {A : Type 0} (p : A → Bool) (xs : List A) where
  pub found_place : (n : ℕ) → position p xs ≡ Some n
      → (n < length xs) × ((d : A) → p (get_or xs n d) ≡ true)
  found_place n e =
      elim (nat_lt (position_or_len p xs) (length xs)) as (λ b.
      nat_lt (position_or_len p xs) (length xs) ≡ b → cond b (Some (position_or_len p xs)) None
      ≡ Some n
      → (n < length xs) × ((d : A) → p (get_or xs n d) ≡ true)) [
        | true ↦ λ h f.
            let within : position_or_len p xs < length xs = ltb-true _ _ h in
            let same : position_or_len p xs ≡ n = some_is f in (
              omega (arith, within, same),
              λ d. ap (λ k. p (get_or xs k d)) (sym same) ∙ passes_at_first p xs d within,
            )
        | false ↦ λ h f. cc
      ] refl e

  pub none_found : position p xs ≡ None → (k : ℕ) (d : A) → k < length xs → p (get_or xs k d)
      ≡ false
  none_found e k d within =
      elim (nat_lt (position_or_len p xs) (length xs)) as (λ b.
      nat_lt (position_or_len p xs) (length xs) ≡ b → cond b (Some (position_or_len p xs)) None
      ≡ None
      → p (get_or xs k d) ≡ false) [
        | true ↦ λ h f. cc
        | false ↦ λ h f.
            let past = ltb-false _ _ h in fails_before_first p xs k d (omega (arith, past, within))
      ] refl e

-- ---- distinct keys

all_at : {A : Type 0} (P : A → Type 0) (xs : List A) → AllByRecursion P xs
    → (k : ℕ) (d : A) → k < length xs → P (get_or xs k d)
all_at P [] all k d within = absurd (omega arith)
all_at P (x ∷ xs) all zero d within = all.0
all_at P (x ∷ xs) all (suc k) d within = all_at P xs all.1 k d (omega arith)

-- the keys at two places differ
distinct_after : (ks : List Key) → IsDistinct same_key ks → (n k : ℕ) (d : Key) → n < k
    → k < length ks
    → same_key (get_or ks n d) (get_or ks k d) ≡ false
unfolding IsDistinct
distinct_after [] apart n k d less within = absurd (omega arith)
distinct_after (x ∷ ks) apart zero zero d less within = absurd (omega arith)
distinct_after (x ∷ ks) apart zero (suc k) d less within =
    all_at (λ y. same_key x y ≡ false) ks apart.0 k d (omega arith)
distinct_after (x ∷ ks) apart (suc n) zero d less within = absurd (omega arith)
distinct_after (x ∷ ks) apart (suc n) (suc k) d less within =
    distinct_after ks apart.1 n k d (omega arith) (omega arith)

pub distinct_at : (ks : List Key) → IsDistinct same_key ks → (n k : ℕ) (d : Key) → (n ≡ k → ⊥)
    → n < length ks → k < length ks → same_key (get_or ks n d) (get_or ks k d) ≡ false
distinct_at ks apart n k d other from to =
    elim (nat_lt n k) as (λ b. nat_lt n k ≡ b → same_key (get_or ks n d) (get_or ks k d) ≡ false) [
      | true ↦ λ h. distinct_after ks apart n k d (ltb-true _ _ h) to
      | false ↦ λ h.
          let more = ltb-false _ _ h in
          let less : k < n = omega arith in
          same_turned (get_or ks n d) (get_or ks k d) ∙ distinct_after ks apart k n d less from
    ] refl

-- ---- keys one after another

any_same : (key : Key) (ks : List Key) → list_any (eq-value.it key) ks ≡ list_any (same_key key) ks
any_same key [] = refl
any_same key (k ∷ ks) =
    ap (λ b. b || list_any (eq-value.it key) ks) (key_eq key k)
    ∙ ap (λ b. same_key key k || b) (any_same key ks)

all_middle : {A : Type 0} (P : A → Type 0) (xs : List A) (y : A) (zs : List A)
    → AllByRecursion P (xs ++ y ∷ zs) → P y
all_middle P [] y zs all = all.0
all_middle P (x ∷ xs) y zs all = all_middle P xs y zs all.1

-- a key of distinct ones isn't among those before it
not_before : (ks : List Key) (k : Key) (rest : List Key) → IsDistinct same_key (ks ++ k ∷ rest)
    → list_any (same_key k) ks ≡ false
unfolding IsDistinct
not_before [] k rest apart = refl
not_before (x ∷ ks) k rest apart =
    ap (λ b. b || list_any (same_key k) ks)
    (same_turned k x ∙ all_middle (λ y. same_key x y ≡ false) ks k rest apart.0)
    ∙ not_before ks k rest apart.1

split_at : (ks : List Key) (i : ℕ) (d : Key) → i < length ks
    → ks ≡ take i ks ++ get_or ks i d ∷ drop (i + 1) ks
split_at ks i d within =
    sym (take-append-drop i ks) ∙ ap (λ rest. take i ks ++ rest) (drop_more ks i d within)

-- the keys before a place don't have the one at it
pub is_new : (ks : List Key) (i : ℕ) (d : Key) → i < length ks → IsDistinct same_key ks
    → list_any (same_key (get_or ks i d)) (take i ks) ≡ false
is_new ks i d within apart =
    not_before (take i ks) (get_or ks i d) (drop (i + 1) ks)
    (subst (IsDistinct same_key) (split_at ks i d within) apart)

-- inserting the next of distinct keys
pub inserted : (ks : List Key) (i : ℕ) (d : Key) → i < length ks → IsDistinct same_key ks
    → insert_key eq-value.it (take i ks) (get_or ks i d) ≡ take (i + 1) ks
inserted ks i d within apart =
    ap (λ b. if b then take i ks else take i ks ++ get_or ks i d ∷ [])
    (any_same (get_or ks i d) (take i ks) ∙ is_new ks i d within apart)
    ∙ sym (take_more ks i d within)

-- ---- keys that are looked for one after another

all_push : {A : Type 0} (P : A → Type 0) (xs : List A) (y : A) → AllByRecursion P xs → P y
    → AllByRecursion P (xs ++ y ∷ [])
all_push P [] y all p = (p, tt)
all_push P (x ∷ xs) y all p = (all.0, all_push P xs y all.1 p)

distinct_push : (ks : List Key) (k : Key) → IsDistinct same_key ks → list_any (same_key k) ks
    ≡ false
    → IsDistinct same_key (ks ++ k ∷ [])
unfolding IsDistinct
distinct_push [] k apart new = (tt, tt)
distinct_push (x ∷ ks) k apart new =
    elim (same_key k x) as (λ b. same_key k x ≡ b → (b || list_any (same_key k) ks) ≡ false
    → IsDistinct same_key ((x ∷ ks) ++ k ∷ [])) [
      | true ↦ λ h f. cc
      | false ↦ λ h f. (
        all_push (λ y. same_key x y ≡ false) ks k apart.0 (same_turned x k ∙ h),
        distinct_push
            ks k apart.1 f,
      )
    ] refl new

-- a key that isn't among the distinct ones before it
pub looked_on : (ks : List Key) (i : ℕ) (d : Key) (seen : List Key) (k : Key) → i < length ks
    → seen ≡ take i ks → IsDistinct same_key seen → k ≡ get_or ks i d
    → list_any (eq-value.it k) seen ≡ false
    → (insert_key eq-value.it seen k ≡ take (i + 1) ks)
    × IsDistinct same_key (insert_key eq-value.it seen k)
looked_on ks i d seen k within are apart is new =
    let pushed : insert_key eq-value.it seen k ≡ seen ++ k ∷ [] =
    ap (λ b. if b then seen else seen ++ k ∷ []) new in (
      pushed ∙ ap (λ xs. xs ++ k ∷ []) are ∙ ap (λ x. take i ks ++ x ∷ []) is
          ∙ sym (take_more ks i d within),
      subst (IsDistinct same_key) (sym pushed)
          (distinct_push seen k apart (sym (any_same k seen) ∙ new)),
    )

-- a key that is among those before it
pub looked_twice : (ks : List Key) (i : ℕ) (d : Key) (seen : List Key) (k : Key) → i < length ks
    → seen ≡ take i ks → k ≡ get_or ks i d → list_any (eq-value.it k) seen ≡ true
    → IsDistinct same_key ks → ⊥
looked_twice ks i d seen k within are is again apart =
    true≢false
    (sym again ∙ any_same k seen ∙ ap (list_any (same_key k)) are
    ∙ ap (λ x. list_any (same_key x) (take i ks)) is ∙ is_new ks i d within apart)

pub inserted_on : (ks : List Key) (i : ℕ) (d : Key) (seen : List Key) (k : Key) → i < length ks
    → seen ≡ take i ks → IsDistinct same_key ks → k ≡ get_or ks i d
    → insert_key eq-value.it seen k ≡ take (i + 1) ks
inserted_on ks i d seen k within are apart is =
    ap (λ xs. insert_key eq-value.it xs k) are ∙ ap (insert_key eq-value.it (take i ks)) is
    ∙ inserted ks i d within apart

-- the key of the next want
pub next_key : (ws items : List Want) (i : ℕ) (w : Want) (k : Key) → items ≡ ws
    → w ≡ get_or items i w → k ≡ w.key → k ≡ get_or (map (λ w. w.key) ws) i w.key
next_key ws items i w k are at is =
    is ∙ ap (λ w. w.key) at ∙ ap (λ ws. (get_or ws i w).key) are
    ∙ sym (lists.get_or-map (λ w. w.key) ws i w)

pub next_within : (ws items : List Want) (i : ℕ) → items ≡ ws → i < length items
    → i < length (map (λ w. w.key) ws)
next_within ws items i are within =
    omega (arith, within, ap length are, length-map ws (λ w. w.key))

pub not_added : (added : Bool) (among : Bool) → added ≡ not among → added ≡ false → among ≡ true
not_added added true is not = refl
not_added added false is not = cc

pub was_added : (added : Bool) (among : Bool) → added ≡ not among → added ≡ true → among ≡ false
was_added added false is not = refl
was_added added true is not = cc
