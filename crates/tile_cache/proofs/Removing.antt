-- What is left where several addresses are emptied one after the other.
use Rattle.std.specs.Prelude.{if◌then◌else◌}
use Rattle.std.proofs.Common.{ℕ, ◌+◌, ◌<◌, ◌≤◌, ◌≡◌, arith, Bool, true, false, not, cond, ◌||◌}
use Rattle.std.proofs.Common.{List, [], ◌∷◌, ◌++◌, filter, length, take, get_or, refl, sym, ap, ◌∙◌}
use Rattle.std.specs.List.{list_any, IsDistinct}
use Rattle.std.specs.Map.{keys_of, remove_entry}
use Rattle.std.proofs.lemmas.List.{take_more}
use Rattle.std.proofs.lemmas.List.Folds.{list_any-append}
use Rattle.std.proofs.lemmas.Map.Made.{IsDistinct-keys_filter}
use Rattle.std.specs.Cmp.Lexicographic.{nat_list_eq_equiv}
use Rattle.std.proofs.lemmas.Map.{NonePasses}
use Rattle.std.proofs.lemmas.Map.Entries.{none_past_head}
use Rattle.std.proofs.lemmas.Map.Keys.{IsDistinct-tail}
use Rattle.tile_cache.specs.Pins.{times}
use Rattle.tile_cache.specs.Residents.{same_text}
use Rattle.tile_cache.specs.Kept.{KeptEntry, residents_in}
use Rattle.tile_cache.proofs.Texts.{text_turned}
use Rattle.tile_cache.proofs.Budgets.{addresses_of, IsApart}
use Rattle.tile_cache.proofs.Entries.{is_at, remove_is}

-- the entry is at none of the addresses
abbrev pub is_left : List (List ℕ) → KeptEntry → Bool
is_left addresses e = not (list_any (same_text e.0) addresses)

pub all_left : (es : List KeptEntry) → es ≡ filter (is_left []) es
all_left [] = refl
all_left (e ∷ es) = ap (λ xs. e ∷ xs) (all_left es)

one : (front : List (List ℕ)) (a : List ℕ) (e : KeptEntry)
    → list_any (same_text e.0) (front ++ a ∷ [])
    ≡ (list_any (same_text e.0) front || (same_text e.0 a || false))
one front a e = list_any-append (same_text e.0) front (a ∷ [])

twice : (front : List (List ℕ)) (a : List ℕ) (es : List KeptEntry)
    → filter (λ e. not (is_at a e)) (filter (is_left front) es)
    ≡ filter (is_left (front ++ a ∷ [])) es
twice front a [] = refl
twice front a (e ∷ es) =
    by (list_any (same_text e.0) front) (same_text e.0 a) refl (twice front a es)
    ∙ sym (ap (λ t. cond (not t) (e ∷ filter (is_left (front ++ a ∷ [])) es)
    (filter (is_left (front ++ a ∷ [])) es)) (one front a e))
  where
    rest : List KeptEntry
    rest = filter (is_left front) es

    left : List KeptEntry
    left = filter (is_left (front ++ a ∷ [])) es

    by : (s t : Bool) → same_text e.0 a ≡ t
        → filter (λ x. not (is_at a x)) rest ≡ left
        → filter (λ x. not (is_at a x)) (cond (not s) (e ∷ rest) rest)
        ≡ cond (not (s || (t || false))) (e ∷ left) left
    by true t k h = h
    by false true k h = ap (λ u. cond (not u) (e ∷ filter (λ x. not (is_at a x)) rest)
        (filter (λ x. not (is_at a x)) rest)) k ∙ h
    by false false k h = ap (λ u. cond (not u) (e ∷ filter (λ x. not (is_at a x)) rest)
        (filter (λ x. not (is_at a x)) rest)) k ∙ ap (λ ys. e ∷ ys) h

-- one address more is emptied
pub one_less : (es : List KeptEntry) (addresses : List (List ℕ)) (i : ℕ) (d : List ℕ)
    → i < length addresses → IsDistinct same_text (keys_of es)
    → remove_entry (same_text (get_or addresses i d)) (filter (is_left (take i addresses)) es)
    ≡ filter (is_left (take (i + 1) addresses)) es
one_less es addresses i d h distinct =
    remove_is (filter (is_left (take i addresses)) es) (get_or addresses i d)
    (IsDistinct-keys_filter same_text (is_left (take i addresses)) es distinct)
    ∙ twice (take i addresses) (get_or addresses i d) es
    ∙ ap (λ xs. filter (is_left xs) es) (sym (take_more addresses i d h))

-- ---- no address stands twice

none_of : (es : List KeptEntry) (a : List ℕ) → NonePasses (same_text a) es
    → times a (addresses_of (residents_in es)) ≡ 0
none_of [] a h = refl
none_of (e ∷ es) a h =
    ap (λ t. if t then times a (addresses_of (residents_in es)) + 1
    else times a (addresses_of (residents_in es))) (text_turned e.0 a ∙ h.0)
    ∙ none_of es a h.1

pub apart_is : (es : List KeptEntry) → IsDistinct same_text (keys_of es)
    → IsApart (residents_in es)
apart_is [] d a = omega arith
apart_is (e ∷ es) d a =
    by (same_text e.0 a) refl (apart_is es (IsDistinct-tail same_text e.0 (keys_of es) d) a)
  where
    n : ℕ
    n = times a (addresses_of (residents_in es))

    by : (t : Bool) → same_text e.0 a ≡ t → n ≤ 1 → (if t then n + 1 else n) ≤ 1
    by true t h =
        let none = none_of es a
        (none_past_head nat_list_eq_equiv a e es d (text_turned a e.0 ∙ t)) in
        omega arith
    by false t h = h
