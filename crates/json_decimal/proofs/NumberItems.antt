-- Values all of which are numbers, entry by entry.
use Rattle.std.proofs.Common.{◌≡◌, ℕ, ◌+◌, ◌-◌, min, ◌<◌, ◌≤◌, eqb, List, [], ◌∷◌, ◌++◌, length, take, drop, set, get_or, Bor, Bool, true, false, cond, Option, Some, None, refl, sym, subst, ap, ◌∙◌, arith, append_assoc}
use Rattle.std.proofs.lemmas.Bool.{ne_eqb}
use Rattle.std.proofs.lemmas.Bool.Decides.{nat_tests}
use Rattle.std.proofs.lemmas.List.{append-nil, drop_all, drop_more, map-set, length-map, take_all, take_more_set}
use Rattle.json_decimal.specs.JsonValue.{JsonValue}
use Rattle.json_decimal.specs.Scan.{◌>>=◌}
use Rattle.json_decimal.specs.Named.{plain}
use Rattle.json_decimal.specs.Parts.{number_of, all_numbers, numbers_of}
use Rattle.json_decimal.specs.Entries.{form_from, value_as, value_from, inside, inside_as, values_on}
use Rattle.json_decimal.specs.declared.entry.Entry.{Entry}
use Rattle.json_decimal.specs.declared.form.JsonForm.{JsonForm}
use Rattle.json_decimal.specs.declared.form.JsonForm.TheVariants as forms

-- the spellings before, and those that are still to come
abbrev with_spellings : List (List ℕ) → Option (List (List ℕ)) → Option (List (List ℕ))
with_spellings front read = read >>= λ spellings. Some (front ++ spellings)

with_none : (read : Option (List (List ℕ))) → with_spellings [] read ≡ read
with_none None = refl
with_none (Some ss) = refl

with_one : (front : List (List ℕ)) (s : List ℕ) (read : Option (List (List ℕ)))
    → with_spellings front (read >>= λ ss. Some (s ∷ ss)) ≡ with_spellings (front ++ s ∷ []) read
with_one front s None = refl
with_one front s (Some ss) = ap Some (sym (append_assoc front (s ∷ []) ss))

-- a number has no entry but its own
number_alone : (f : JsonForm) (bytes : List ℕ) (e : Entry) (vs : List JsonValue) (s : List ℕ)
    → form_from (drop e.start bytes) ≡ f
    → number_of (value_as f (drop e.start bytes) vs) ≡ Some s → inside bytes e ≡ 0
number_alone forms.Null bytes e vs s h k = cc
number_alone forms.True bytes e vs s h k = cc
number_alone forms.False bytes e vs s h k = cc
number_alone forms.Number bytes e vs s h k = ap (λ f. inside_as f e.extent) h
number_alone forms.Words bytes e vs s h k = cc
number_alone forms.List bytes e vs s h k = cc
number_alone forms.Object bytes e vs s h k = cc

-- all values on these entries
abbrev values : List ℕ → List Entry → List JsonValue
values bytes es = values_on bytes es 0 (length es)

-- a number before other values
one_more : (bytes : List ℕ) (e : Entry) (rest : List Entry) (s : List ℕ)
    → ((vs : List JsonValue) → Some s ≡ number_of (value_from (drop e.start bytes) vs))
    → values bytes (e ∷ rest) ≡ value_from (drop e.start bytes)
    (values_on bytes rest 0 (min (inside bytes e) (length rest))) ∷ values bytes rest
one_more bytes e rest s h =
    let alone : inside bytes e ≡ 0 =
    number_alone (form_from (drop e.start bytes)) bytes e [] s refl (sym (h [])) in
    let all : length rest - 0 ≡ length rest = omega arith in
    ap (λ (n : ℕ). value_from (drop e.start bytes)
    (values_on bytes rest 0 (min (inside bytes e) (length rest))) ∷ values_on bytes rest n
    (length rest - n)) alone
    ∙ ap (λ (n : ℕ). value_from (drop e.start bytes)
    (values_on bytes rest 0 (min (inside bytes e) (length rest))) ∷ values_on bytes rest 0 n) all

-- the values of the first i entries are numbers of these spellings
pub record StartNumbers (bytes : List ℕ) (es : List Entry) (spelled : List (List ℕ)) (i : ℕ) : Type
    0 where
  so_far : all_numbers (values bytes es)
      ≡ with_spellings spelled (all_numbers (values bytes (drop i es)))

pub none_yet : (bytes : List ℕ) (es : List Entry) → StartNumbers bytes es [] 0
none_yet bytes es = record { so_far = sym (with_none (all_numbers (values bytes es))) }

next_by : (bytes : List ℕ) (es rest : List Entry) (e : Entry) (spelled : List (List ℕ)) (s : List ℕ)
    (i : ℕ) → StartNumbers bytes es spelled i
    → drop i es ≡ e ∷ rest → drop (i + 1) es ≡ rest
    → ((vs : List JsonValue) → Some s ≡ number_of (value_from (drop e.start bytes) vs))
    → StartNumbers bytes es (spelled ++ s ∷ []) (i + 1)
next_by bytes es rest e spelled s i b here behind h =
    let left : values bytes (drop i es)
    ≡ value_from (drop e.start bytes)
    (values_on bytes rest 0 (min (inside bytes e) (length rest))) ∷ values bytes
    (drop (i + 1) es) =
    ap (values bytes) here ∙ one_more bytes e rest s h
    ∙ ap (λ (l : List Entry). value_from (drop e.start bytes)
    (values_on bytes rest 0 (min (inside bytes e) (length rest))) ∷ values bytes l) (sym behind) in
    record {
      so_far = b.so_far
          ∙ ap (λ vs. with_spellings spelled (all_numbers vs)) left
          ∙ ap (λ (o : Option (List ℕ)). with_spellings spelled
          (o >>= λ s. all_numbers (values bytes (drop (i + 1) es)) >>= λ ss. Some (s ∷ ss)))
          (sym (h (values_on bytes rest 0 (min (inside bytes e) (length rest)))))
          ∙ with_one spelled s (all_numbers (values bytes (drop (i + 1) es)));
    }

-- the next of them is a number too, and its spelling is put at its place
pub next_number : (bytes : List ℕ) (es : List Entry) (d : Entry) (numbers : List (Bor (List ℕ)))
    (s : Bor (List ℕ)) (i : ℕ)
    → StartNumbers bytes es (take i (plain numbers)) i → i < length es → i < length numbers
    → ((vs : List JsonValue) → Some s.now
    ≡ number_of (value_from (drop (get_or es i d).start bytes) vs))
    → StartNumbers bytes es (take (i + 1) (plain (set numbers i s))) (i + 1)
next_number bytes es d numbers s i b room place h =
    let put : take (i + 1) (plain (set numbers i s)) ≡ take i (plain numbers) ++ s.now ∷ [] =
    ap (take (i + 1)) (map-set (λ (name : Bor (List ℕ)). name.now) numbers i s)
    ∙ take_more_set (plain numbers) i s.now
    (omega (arith, length-map numbers (λ (name : Bor (List ℕ)). name.now))) in
    subst (λ (l : List (List ℕ)). StartNumbers bytes es l (i + 1)) (sym put)
    (next_by bytes es (drop (i + 1) es) (get_or es i d) (take i (plain numbers)) s.now i b
    (drop_more es i d room) refl h)

none_either : (b : Bool) (read : Option (List (List ℕ))) → read ≡ None → None ≡ cond b read None
none_either true read h = sym h
none_either false read h = refl

-- the next of them is no number
pub no_number_there : (bytes : List ℕ) (es : List Entry) (d : Entry) (spelled : List (List ℕ))
    (i n : ℕ) → StartNumbers bytes es spelled i
    → i < length es → ((vs : List JsonValue)
    → None ≡ number_of (value_from (drop (get_or es i d).start bytes) vs))
    → None ≡ numbers_of n (values bytes es)
no_number_there bytes es d spelled i n b room h =
    let e : Entry = get_or es i d in
    let rest : List Entry = drop (i + 1) es in
    let none : all_numbers (values bytes (drop i es)) ≡ None =
    ap (λ (l : List Entry). all_numbers (values bytes l)) (drop_more es i d room)
    ∙ ap (λ (o : Option (List ℕ)). o >>= λ s. all_numbers
    (values_on bytes rest (inside bytes e) (length rest - inside bytes e)) >>= λ ss. Some (s ∷ ss))
    (sym (h (values_on bytes rest 0 (min (inside bytes e) (length rest))))) in
    none_either (eqb (length (values bytes es)) n) (all_numbers (values bytes es))
    (b.so_far ∙ ap (with_spellings spelled) none)

same_test : (n m : ℕ) → n ≡ m → eqb n m ≡ true
same_test n m h = grind (arith, nat_tests)

-- numbers are as many as their entries
counted_by : (bytes : List ℕ) (e : Entry) (rest : List Entry) (o : Option (List ℕ))
    (ss : List (List ℕ))
    → number_of (value_from (drop e.start bytes)
    (values_on bytes rest 0 (min (inside bytes e) (length rest)))) ≡ o
    → (o >>= λ s. all_numbers (values_on bytes rest (inside bytes e) (length rest - inside bytes e))
    >>= λ ss. Some (s ∷ ss)) ≡ Some ss
    → ((ts : List (List ℕ)) → all_numbers (values bytes rest) ≡ Some ts
    → length (values bytes rest) ≡ length rest)
    → length (values bytes (e ∷ rest)) ≡ length (e ∷ rest)
counted_by bytes e rest None ss h k same = cc
counted_by bytes e rest (Some s) ss h k same =
    let alone : inside bytes e ≡ 0 =
    number_alone (form_from (drop e.start bytes)) bytes e
    (values_on bytes rest 0 (min (inside bytes e) (length rest))) s refl h in
    let all : length rest - 0 ≡ length rest = omega arith in
    let left : values_on bytes rest (inside bytes e) (length rest - inside bytes e)
    ≡ values bytes rest =
    ap (λ (n : ℕ). values_on bytes rest n (length rest - n)) alone
    ∙ ap (values_on bytes rest 0) all in
    let some : (all_numbers (values bytes rest) >>= λ ss. Some (s ∷ ss)) ≡ Some ss =
    ap (λ (vs : List JsonValue). all_numbers vs >>= λ ss. Some (s ∷ ss)) (sym left) ∙ k in
    omega (arith, ap length left, counted_rest (all_numbers (values bytes rest)) refl some same)
  where
    counted_rest : (o : Option (List (List ℕ))) → all_numbers (values bytes rest) ≡ o
        → (o >>= λ ss. Some (s ∷ ss)) ≡ Some ss
        → ((ts : List (List ℕ)) → all_numbers (values bytes rest) ≡ Some ts
        → length (values bytes rest) ≡ length rest)
        → length (values bytes rest) ≡ length rest
    counted_rest None e k same = cc
    counted_rest (Some ts) e k same = same ts e

counted_all : (bytes : List ℕ) (es : List Entry) (ss : List (List ℕ))
    → all_numbers (values bytes es) ≡ Some ss → length (values bytes es) ≡ length es
counted_all bytes [] ss h = refl
counted_all bytes (e ∷ es) ss h = counted_by bytes e es _ ss refl h (counted_all bytes es)

other_by : (bytes : List ℕ) (es : List Entry) (n : ℕ) (read : Option (List (List ℕ)))
    → all_numbers (values bytes es) ≡ read → (length es ≡ n → ⊥)
    → None ≡ cond (eqb (length (values bytes es)) n) read None
other_by bytes es n None e h = none_either (eqb (length (values bytes es)) n) None refl
other_by bytes es n (Some ss) e h =
    let counted : length (values bytes es) ≡ length es = counted_all bytes es ss e in
    sym (ap (λ t. cond t (Some ss) None)
    (ne_eqb (length (values bytes es)) n (λ k. h (sym counted ∙ k))))

-- there are as many entries as numbers
pub other_count : (bytes : List ℕ) (es : List Entry) (n : ℕ) → (length es ≡ n → ⊥)
    → None ≡ numbers_of n (values bytes es)
other_count bytes es n h = other_by bytes es n (all_numbers (values bytes es)) refl h

-- all are numbers, and there are as many
pub all_are : (bytes : List ℕ) (es : List Entry) (numbers : List (Bor (List ℕ))) (i n : ℕ)
    → StartNumbers bytes es (take i (plain numbers)) i
    → length es ≡ n → length numbers ≡ n → n ≤ i
    → Some (plain numbers) ≡ numbers_of n (values bytes es)
all_are bytes es numbers i n b h k l =
    let none : drop i es ≡ [] = drop_all i es (omega arith) in
    let whole : take i (plain numbers) ≡ plain numbers =
    take_all i (plain numbers) (omega
    (arith, length-map numbers (λ (name : Bor (List ℕ)). name.now))) in
    let read : all_numbers (values bytes es) ≡ Some (plain numbers) =
    b.so_far ∙ ap (λ (l : List Entry). with_spellings (take i (plain numbers))
    (all_numbers (values bytes l))) none
    ∙ ap Some (append-nil (take i (plain numbers)) ∙ whole) in
    let counted : length (values bytes es) ≡ length es =
    counted_all bytes es (plain numbers) read in
    sym read ∙ sym (ap (λ t. cond t (all_numbers (values bytes es)) None)
    (same_test (length (values bytes es)) n (omega arith)))
