-- What the entries of a value give, part by part.
use Rattle.std.proofs.Common.{◌≡◌, ℕ, zero, suc, ◌+◌, ◌-◌, min, ◌≤◌, List, [], ◌∷◌, length, take, drop, Some, None, refl, sym, subst, ap, ◌∙◌, arith, length-drop}
use Rattle.std.proofs.lemmas.List.{length-take}
use Rattle.std.proofs.Common.{inl, inr}
use Rattle.std.proofs.lemmas.Bool.Decides.{leb_tells}
use Rattle.json_decimal.specs.JsonValue.{JsonValue, list_of-values, pairs_of-pairs}
use Rattle.json_decimal.specs.Handles.{split_name}
use Rattle.json_decimal.specs.Parts.{split_first, form_of, items_of, members_of}
use Rattle.json_decimal.specs.Entries.{words_of, paired, form_from, value_as, value_from, inside, values_on, values_inside, value_on, spelled_at}
use Rattle.json_decimal.specs.declared.entry.Entry.{Entry}
use Rattle.json_decimal.specs.declared.form.JsonForm.{JsonForm}
use Rattle.json_decimal.specs.declared.form.JsonForm.TheVariants as forms

values_on-zero : (bytes : List ℕ) (es : List Entry) (past : ℕ) → values_on bytes es past 0 ≡ []
values_on-zero bytes [] past = refl
values_on-zero bytes (e ∷ es) zero = refl
values_on-zero bytes (e ∷ es) (suc past) = values_on-zero bytes es past

values_on-drop : (bytes : List ℕ) (es : List Entry) (past n : ℕ)
    → values_on bytes es past n ≡ values_on bytes (drop past es) 0 n
values_on-drop bytes [] zero n = refl
values_on-drop bytes [] (suc past) n = refl
values_on-drop bytes (e ∷ es) zero n = refl
values_on-drop bytes (e ∷ es) (suc past) n = values_on-drop bytes es past n

same_behind : (bytes : List ℕ) (xs ys : List Entry) (k i n : ℕ) → n ≤ k
    → ((p m : ℕ) → p + m ≤ k → values_on bytes xs p m ≡ values_on bytes ys p m)
    → values_on bytes xs i (n - i) ≡ values_on bytes ys i (n - i)
same_behind bytes xs ys k i n h same = elim (leb_tells i n) [
  | inl l ↦ same i (n - i) (omega (arith, l.1))
  | inr l ↦
      let none : n - i ≡ 0 = omega (arith, l.1) in
      ap (values_on bytes xs i) none ∙ values_on-zero bytes xs i ∙ sym (values_on-zero bytes ys i)
      ∙ ap (values_on bytes ys i) (sym none)
]

-- entries that are left out, behind those that count
values_on-take : (bytes : List ℕ) (es : List Entry) (k past n : ℕ) → past + n ≤ k
    → values_on bytes (take k es) past n ≡ values_on bytes es past n
values_on-take bytes [] zero past n h = refl
values_on-take bytes [] (suc k) past n h = refl
values_on-take bytes (e ∷ es) zero past n h =
    let none : n ≡ 0 = omega arith in ap (values_on bytes [] past) none
    ∙ sym (values_on-zero bytes (e ∷ es) past)
    ∙ ap (values_on bytes (e ∷ es) past) (sym none)
values_on-take bytes (e ∷ es) (suc k) (suc past) n h =
    values_on-take bytes es k past n (omega arith)
values_on-take bytes (e ∷ es) (suc k) zero zero h = refl
values_on-take bytes (e ∷ es) (suc k) zero (suc n) h =
    ap (λ (vs : List JsonValue). value_from (drop e.start bytes) vs ∷ values_on bytes (take k es)
    (inside bytes e) (n - inside bytes e))
    (values_on-take bytes es k 0 (min (inside bytes e) n) (omega arith))
    ∙ ap (λ (vs : List JsonValue). value_from (drop e.start bytes)
    (values_on bytes es 0 (min (inside bytes e) n)) ∷ vs)
    (same_behind bytes (take k es) es k (inside bytes e) n (omega arith)
    (λ p m l. values_on-take bytes es k p m l))

-- the first of the values that are left, and those behind it
abbrev Split : List ℕ → List Entry → List Entry → Type 0
Split bytes left es =
    Some (value_on bytes es, values_on bytes left 0 (length left))
    ≡ split_first (values_on bytes es 0 (length es))

split : (bytes : List ℕ) (rest left : List Entry) (e : Entry) → left ≡ drop (inside bytes e) rest
    → Split bytes left (e ∷ rest)
split bytes rest left e k =
    let counted : length left ≡ length rest - inside bytes e =
    ap length k ∙ length-drop (inside bytes e) rest in
    let behind : values_on bytes left 0 (length left)
    ≡ values_on bytes rest (inside bytes e) (length rest - inside bytes e) =
    ap (values_on bytes left 0) counted
    ∙ ap (λ (l : List Entry). values_on bytes l 0 (length rest - inside bytes e)) k
    ∙ sym (values_on-drop bytes rest (inside bytes e) (length rest - inside bytes e)) in
    ap (λ (vs : List JsonValue). Some (value_on bytes (e ∷ rest), vs)) behind

pub next_is : (bytes : List ℕ) (es rest left : List Entry) (e : Entry) → es ≡ e ∷ rest
    → left ≡ drop (inside bytes e) rest
    → Some (value_on bytes es, values_on bytes left 0 (length left))
    ≡ split_first (values_on bytes es 0 (length es))
next_is bytes es rest left e h k = subst (Split bytes left) (sym h) (split bytes rest left e k)

-- the values inside the first
pub parts_are : (bytes : List ℕ) (es rest front : List Entry) (e : Entry) → es ≡ e ∷ rest
    → front ≡ take (inside bytes e) rest
    → values_on bytes front 0 (length front) ≡ values_inside bytes es
parts_are bytes es rest front e h q =
    let counted : length front ≡ min (inside bytes e) (length rest) =
    ap length q ∙ length-take (inside bytes e) rest in
    ap (values_on bytes front 0) counted
    ∙ ap (λ (l : List Entry). values_on bytes l 0 (min (inside bytes e) (length rest))) q
    ∙ values_on-take bytes rest (inside bytes e) 0 (min (inside bytes e) (length rest))
    (omega arith)
    ∙ ap (values_inside bytes) (sym h)

pub split_none : {A : Type 0} (xs : List A) → None ≡ split_first xs → xs ≡ []
split_none [] h = refl
split_none (x ∷ xs) h = cc

pub split_some : {A : Type 0} (xs ys : List A) (x : A) → Some (x, ys) ≡ split_first xs → xs ≡ x ∷ ys
split_some [] ys x h = cc
split_some (z ∷ zs) ys x h =
    let k : (x, ys) ≡ (z, zs) = cc in
    sym (ap (λ (p : _ × List _). p.0 ∷ p.1) k)

-- what is no string gives an empty name
no_words : (f : JsonForm) (bs : List ℕ) (inside : List JsonValue) → (f ≡ forms.Words → ⊥)
    → words_of (value_as f bs inside) ≡ []
no_words forms.Null bs inside h = refl
no_words forms.True bs inside h = refl
no_words forms.False bs inside h = refl
no_words forms.Number bs inside h = refl
no_words forms.Words bs inside h = absurd (h refl)
no_words forms.List bs inside h = refl
no_words forms.Object bs inside h = refl

pub no_name_is : (bytes : List ℕ) (es rest left : List Entry) (e : Entry) (f : JsonForm)
    → es ≡ e ∷ rest → left ≡ drop (inside bytes e) rest
    → f ≡ form_from (drop e.start bytes) → (f ≡ forms.Words → ⊥)
    → Some ([], values_on bytes left 0 (length left))
    ≡ split_name (values_on bytes es 0 (length es))
no_name_is bytes es rest left e f h k is other =
    let first : values_on bytes es 0 (length es)
    ≡ value_on bytes es ∷ values_on bytes left 0 (length left) =
    split_some (values_on bytes es 0 (length es)) (values_on bytes left 0 (length left))
    (value_on bytes es) (next_is bytes es rest left e h k) in
    let none : words_of (value_on bytes es) ≡ [] =
    ap (λ (l : List Entry). words_of (value_on bytes l)) h
    ∙ no_words (form_from (drop e.start bytes)) (drop e.start bytes)
    (values_inside bytes (e ∷ rest)) (λ w. other (is ∙ w)) in
    ap (λ (n : List ℕ). Some (n, values_on bytes left 0 (length left))) (sym none)
    ∙ ap split_name (sym first)

form_as : (f : JsonForm) (bs : List ℕ) (inside : List JsonValue)
    → f ≡ form_of (value_as f bs inside)
form_as forms.Null bs inside = refl
form_as forms.True bs inside = refl
form_as forms.False bs inside = refl
form_as forms.Number bs inside = refl
form_as forms.Words bs inside = refl
form_as forms.List bs inside = refl
form_as forms.Object bs inside = refl

-- the parts of a list and of an object
value_is_as : (bytes : List ℕ) (es : List Entry) (f : JsonForm) → f ≡ form_of (value_on bytes es)
    → value_as f (spelled_at bytes es) (values_inside bytes es) ≡ value_on bytes es
value_is_as bytes es f h =
    ap (λ f. value_as f (spelled_at bytes es) (values_inside bytes es))
    (h ∙ sym (form_as (form_from (spelled_at bytes es)) (spelled_at bytes es)
    (values_inside bytes es)))

pub list_parts : (bytes : List ℕ) (es : List Entry) (parts : List JsonValue)
    → forms.List ≡ form_of (value_on bytes es) → parts ≡ values_inside bytes es
    → Some parts ≡ items_of (value_on bytes es)
list_parts bytes es parts h k =
    ap Some (k ∙ sym (list_of-values (values_inside bytes es)))
    ∙ ap items_of (value_is_as bytes es forms.List h)

pub object_parts : (bytes : List ℕ) (es : List Entry) (parts : List JsonValue)
    → forms.Object ≡ form_of (value_on bytes es) → parts ≡ values_inside bytes es
    → Some (paired parts) ≡ members_of (value_on bytes es)
object_parts bytes es parts h k =
    ap (λ (vs : List JsonValue). Some (paired vs)) k
    ∙ ap Some (sym (pairs_of-pairs (paired (values_inside bytes es))))
    ∙ ap members_of (value_is_as bytes es forms.Object h)
