-- Members that are kept by references.
use Rattle.std.proofs.Common.{◌≡◌, ℕ, suc, ◌+◌, Bool, true, false, not, List, [], ◌∷◌, map, cond, bytes_eq, refl, ap, ◌∙◌, length, Bor}
use Rattle.std.specs.List.{position, prefix_len}
use Rattle.std.specs.Map.{keys_of}
use Rattle.indexmap.specs.IndexMap.{insert_entry}
use Rattle.json_decimal.specs.View.{value_of}
use Rattle.json_decimal.specs.declared.json.Json.{Json}
use Rattle.meta_schema.specs.Members.{names}
use Rattle.meta_schema.specs.Seen.{member_seen, members_seen}

abbrev pub Referred : Type 0
Referred = List (Bor (List ℕ) × Bor Json)

-- one that is put among them is put among those that they stand for
pub inserted_seen : (es : Referred) (name : Bor (List ℕ)) (value : Bor Json)
    → members_seen (insert_entry (λ a b. bytes_eq a.now b.now) es name value)
    ≡ insert_entry bytes_eq (members_seen es) name.now (value_of value.now)
inserted_seen [] name value = refl
inserted_seen (e ∷ es) name value =
    elim (bytes_eq name.now e.0.now) as (λ b.
    members_seen
    (cond b ((e.0, value) ∷ es) (e ∷ insert_entry (λ a b. bytes_eq a.now b.now) es name value))
    ≡ cond b ((e.0.now, value_of value.now) ∷ members_seen es)
    (member_seen e ∷ insert_entry bytes_eq (members_seen es) name.now (value_of value.now))) [
      | true ↦ refl
      | false ↦ ap (λ ms. member_seen e ∷ ms) (inserted_seen es name value)
    ]

names_seen : (es : Referred) → names (members_seen es) ≡ map (λ k. k.now) (keys_of es)
names_seen [] = refl
names_seen (e ∷ es) = ap (λ ns. e.0.now ∷ ns) (names_seen es)

prefix_mapped : {A B : Type 0} (f : A → B) (test : B → Bool) (xs : List A)
    → prefix_len (λ x. test (f x)) xs ≡ prefix_len test (map f xs)
prefix_mapped f test [] = refl
prefix_mapped f test (x ∷ xs) = ap (λ n. cond (test (f x)) (1 + n) 0) (prefix_mapped f test xs)

length_mapped : {A B : Type 0} (f : A → B) (xs : List A) → length xs ≡ length (map f xs)
length_mapped f [] = refl
length_mapped f (x ∷ xs) = ap suc (length_mapped f xs)

position_mapped : {A B : Type 0} (f : A → B) (test : B → Bool) (xs : List A)
    → position (λ x. test (f x)) xs ≡ position test (map f xs)
position_mapped f test xs =
    rw (prefix_mapped f (λ x. not (test x)) xs, length_mapped f xs) refl

-- where a name is found
pub place_seen : (name : List ℕ) (es : Referred)
    → position (λ (k : Bor (List ℕ)). bytes_eq name k.now) (keys_of es)
    ≡ position (bytes_eq name) (names (members_seen es))
place_seen name es =
    position_mapped (λ (k : Bor (List ℕ)). k.now) (bytes_eq name) (keys_of es)
    ∙ rw (names_seen es) refl
