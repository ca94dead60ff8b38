-- Entries that say where something is spelled, and how far its spelling goes.
use Rattle.std.proofs.Common.{◌≡◌, ℕ, zero, suc, ◌<◌, ◌≤◌, List, [], ◌∷◌, ◌++◌, length, take, drop, get_or, Bool, true, false, ◌&&◌, refl, sym, subst, arith}
use Rattle.std.specs.Prelude.{IsTrue, nat_lt, nat_le}
use Rattle.std.specs.List.{list_all}
use Rattle.std.proofs.lemmas.Bool.Decides.{nat_tests}
use Rattle.json_decimal.specs.Entries.{form_by, form_from, is_extent, is_entry, AreEntries}
use Rattle.json_decimal.specs.declared.entry.Entry.{Entry}
use Rattle.json_decimal.specs.declared.form.JsonForm.{JsonForm}

pub both_true : (a b : Bool) → IsTrue a → IsTrue b → IsTrue (a && b)
both_true true b h k = k
both_true false b h k = h

pub first_true : (a b : Bool) → IsTrue (a && b) → IsTrue a
first_true true b h = refl
first_true false b h = h

pub second_true : (a b : Bool) → IsTrue (a && b) → IsTrue b
second_true true b h = h
second_true false b h = let k : false ≡ true = h in cc

pub lt_true : (a b : ℕ) → a < b → IsTrue (nat_lt a b)
lt_true a b h = grind (arith, nat_tests)

pub le_true : (a b : ℕ) → a ≤ b → IsTrue (nat_le a b)
le_true a b h = grind (arith, nat_tests)

pub entries-cons : (bytes : List ℕ) (e : Entry) (es : List Entry) → IsTrue (is_entry bytes e)
    → AreEntries bytes es → AreEntries bytes (e ∷ es)
entries-cons bytes e es h k = both_true (is_entry bytes e) (list_all (is_entry bytes) es) h k

pub entries-first : (bytes : List ℕ) (e : Entry) (es : List Entry) → AreEntries bytes (e ∷ es)
    → IsTrue (is_entry bytes e)
entries-first bytes e es h = first_true (is_entry bytes e) (list_all (is_entry bytes) es) h

pub entries-rest : (bytes : List ℕ) (e : Entry) (es : List Entry) → AreEntries bytes (e ∷ es)
    → AreEntries bytes es
entries-rest bytes e es h = second_true (is_entry bytes e) (list_all (is_entry bytes) es) h

pub entries-append : (bytes : List ℕ) (es fs : List Entry) → AreEntries bytes es
    → AreEntries bytes fs → AreEntries bytes (es ++ fs)
entries-append bytes [] fs h k = k
entries-append bytes (e ∷ es) fs h k =
    entries-cons bytes e (es ++ fs) (entries-first bytes e es h)
    (entries-append bytes es fs (entries-rest bytes e es h) k)

pub entries-drop : (bytes : List ℕ) (n : ℕ) (es : List Entry) → AreEntries bytes es
    → AreEntries bytes (drop n es)
entries-drop bytes zero [] h = h
entries-drop bytes zero (e ∷ es) h = h
entries-drop bytes (suc n) [] h = h
entries-drop bytes (suc n) (e ∷ es) h = entries-drop bytes n es (entries-rest bytes e es h)

pub entries-take : (bytes : List ℕ) (n : ℕ) (es : List Entry) → AreEntries bytes es
    → AreEntries bytes (take n es)
entries-take bytes zero [] h = refl
entries-take bytes zero (e ∷ es) h = refl
entries-take bytes (suc n) [] h = h
entries-take bytes (suc n) (e ∷ es) h =
    entries-cons bytes e (take n es) (entries-first bytes e es h)
    (entries-take bytes n es (entries-rest bytes e es h))

-- what goes for entries goes for any stretch of those behind the first
pub behind_are_entries : (bytes : List ℕ) (es rest left : List Entry) (e : Entry) (n : ℕ)
    → es ≡ e ∷ rest → left ≡ drop n rest → AreEntries bytes es → AreEntries bytes left
behind_are_entries bytes es rest left e n h q k =
    subst (AreEntries bytes) (sym q) (entries-drop bytes n rest
    (entries-rest bytes e rest (subst (AreEntries bytes) h k)))

pub front_are_entries : (bytes : List ℕ) (es rest front : List Entry) (e : Entry) (n : ℕ)
    → es ≡ e ∷ rest → front ≡ take n rest → AreEntries bytes es → AreEntries bytes front
front_are_entries bytes es rest front e n h q k =
    subst (AreEntries bytes) (sym q) (entries-take bytes n rest
    (entries-rest bytes e rest (subst (AreEntries bytes) h k)))

-- what an entry says of its extent
pub entry_extent : (bytes : List ℕ) (e : Entry) (f : JsonForm) → IsTrue (is_entry bytes e)
    → f ≡ form_from (drop e.start bytes) → IsTrue (is_extent f (drop e.start bytes) e.extent)
entry_extent bytes e f h k =
    let P : JsonForm → Type 0 = λ f. IsTrue (is_extent f (drop e.start bytes) e.extent) in
    subst P (sym k) (second_true (nat_lt e.start (length bytes))
    (is_extent (form_from (drop e.start bytes)) (drop e.start bytes) e.extent) h)

form_at : (bs : List ℕ) (i : ℕ) → i < length bs → form_by (get_or bs i 0) ≡ form_from (drop i bs)
form_at [] i h = absurd (omega arith)
form_at (b ∷ bs) zero h = refl
form_at (b ∷ bs) (suc i) h = form_at bs i (omega arith)
