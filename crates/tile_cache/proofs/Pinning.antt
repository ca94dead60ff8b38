-- How pins are counted over what is kept.
use Rattle.std.specs.Prelude.{if◌then◌else◌}
use Rattle.std.proofs.Common.{ℕ, ◌+◌, ◌≤◌, ◌≡◌, Bool, true, false, cond, Option, Some}
use Rattle.std.proofs.Common.{None}
use Rattle.std.proofs.Common.{List, [], ◌∷◌, ◌++◌, replicate, refl, sym, ap, ◌∙◌}
use Rattle.std.proofs.Common.{zero, suc, arith, zero-add}
use Rattle.std.specs.List.{IsDistinct, AllByRecursion}
use Rattle.std.specs.Option.{option_map_or}
use Rattle.std.specs.Map.{keys_of, lookup, lookup_entry, remove_entry, set_value}
use Rattle.std.specs.Cmp.Lexicographic.{nat_list_eq_equiv}
use Rattle.std.proofs.lemmas.Map.{NonePasses}
use Rattle.std.proofs.lemmas.Map.Entries.{none_past_head}
use Rattle.std.proofs.lemmas.Map.Keys.{IsDistinct-head, IsDistinct-tail}
use Rattle.lru.specs.LruCache.{promoted}
use Rattle.tile_cache.specs.declared.entry.Entry.{Entry}
use Rattle.tile_cache.specs.Pins.{times, SamePins}
use Rattle.tile_cache.specs.Residents.{same_text}
use Rattle.tile_cache.specs.Kept.{KeptEntry, pins_of, pins_in}
use Rattle.tile_cache.proofs.Texts.{text_is, text_refl, text_turned}

-- one time where the addresses are the same
one : List ℕ → List ℕ → ℕ
one b x = if same_text x b then 1 else 0

times-cons : (b x : List ℕ) (xs : List (List ℕ)) → times b (x ∷ xs) ≡ one b x + times b xs
unfolding one
times-cons b x xs = by (same_text x b)
  where
    by : (t : Bool) → (if t then times b xs + 1 else times b xs) ≡ (if t then 1 else 0) + times b xs
    by true = omega arith
    by false = omega arith

times-append : (b : List ℕ) (xs ys : List (List ℕ))
    → times b (xs ++ ys) ≡ times b xs + times b ys
times-append b [] ys = sym (zero-add (times b ys))
times-append b (x ∷ xs) ys =
    let rest = times-append b xs ys in
    let here = times-cons b x xs in
    let there = times-cons b x (xs ++ ys) in
    omega arith

-- how often an entry pins an address
abbrev pub mine : List ℕ → KeptEntry → ℕ
mine b e = times b (pins_of e)

pub pins-cons : (b : List ℕ) (e : KeptEntry) (es : List KeptEntry)
    → times b (pins_in (e ∷ es)) ≡ mine b e + times b (pins_in es)
pins-cons b e es = times-append b (pins_of e) (pins_in es)

-- ---- in another order

removed : (b : List ℕ) (test : List ℕ → Bool) (es : List KeptEntry)
    → times b (pins_in es)
    ≡ option_map_or (mine b) (lookup_entry test es) 0 + times b (pins_in (remove_entry test es))
removed b test [] = refl
removed b test (e ∷ es) = by (test e.0) (removed b test es)
  where
    by : (t : Bool)
        → times b (pins_in es)
        ≡ option_map_or (mine b) (lookup_entry test es) 0 + times b (pins_in (remove_entry test es))
        → times b (pins_in (e ∷ es))
        ≡ option_map_or (mine b) (cond t (Some e) (lookup_entry test es)) 0
        + times b (pins_in (cond t es (e ∷ remove_entry test es)))
    by true h = pins-cons b e es
    by false h =
        let here = pins-cons b e es in
        let there = pins-cons b e (remove_entry test es) in
        omega arith

pub same_when_promoted : (es : List KeptEntry) (test : List ℕ → Bool)
    → SamePins (pins_in es) (pins_in (promoted test es))
same_when_promoted es test = record { same = λ b. by b (lookup_entry test es) (removed b test es) }
  where
    by : (b : List ℕ) (o : Option KeptEntry)
        → times b (pins_in es)
        ≡ option_map_or (mine b) o 0 + times b (pins_in (remove_entry test es))
        → times b (pins_in (option_map_or (λ e. e ∷ remove_entry test es) o es))
        ≡ times b (pins_in es)
    by b None h = refl
    by b (Some e) h = pins-cons b e (remove_entry test es) ∙ sym h

-- ---- with another value

repeated : (b x : List ℕ) (n : ℕ)
    → times b (replicate (suc n) x) ≡ one b x + times b (replicate n x)
repeated b x n = times-cons b x (replicate n x)

with_value : (b a : List ℕ) (es : List KeptEntry) (v w : Entry)
    → lookup (same_text a) es ≡ Some v
    → times b (pins_in (set_value (same_text a) es w)) + times b (replicate v.pins a)
    ≡ times b (pins_in es) + times b (replicate w.pins a)
with_value b a [] v w e = cc
with_value b a (x ∷ xs) v w e = by (same_text a x.0) refl (with_value b a xs v w) e
  where
    by : (t : Bool) → same_text a x.0 ≡ t
        → (lookup (same_text a) xs ≡ Some v
        → times b (pins_in (set_value (same_text a) xs w)) + times b (replicate v.pins a)
        ≡ times b (pins_in xs) + times b (replicate w.pins a))
        → cond t (Some x.1) (lookup (same_text a) xs) ≡ Some v
        → times b (pins_in (cond t ((x.0, w) ∷ xs) (x ∷ set_value (same_text a) xs w)))
        + times b (replicate v.pins a)
        ≡ times b (pins_in (x ∷ xs)) + times b (replicate w.pins a)
    by true t again h =
        let value : x.1 ≡ v = cc in
        let key : a ≡ x.0 = text_is a x.0 t in
        let old : times b (pins_in (x ∷ xs))
        ≡ times b (replicate v.pins a) + times b (pins_in xs) =
        times-append b (pins_of x) (pins_in xs)
        ∙ ap (λ u. times b (replicate u.pins x.0) + times b (pins_in xs)) value
        ∙ ap (λ k. times b (replicate v.pins k) + times b (pins_in xs)) (sym key) in
        let new : times b (pins_in ((x.0, w) ∷ xs))
        ≡ times b (replicate w.pins a) + times b (pins_in xs) =
        times-append b (replicate w.pins x.0) (pins_in xs)
        ∙ ap (λ k. times b (replicate w.pins k) + times b (pins_in xs)) (sym key) in
        omega arith
    by false t again h =
        let rest = again h in
        let old = pins-cons b x xs in
        let new = pins-cons b x (set_value (same_text a) xs w) in
        omega arith

-- one pin more
pub same_when_pinned : (es : List KeptEntry) (a : List ℕ) (v w : Entry)
    → lookup (same_text a) es ≡ Some v → w.pins ≡ v.pins + 1
    → SamePins (a ∷ pins_in es) (pins_in (set_value (same_text a) es w))
same_when_pinned es a v w e more = record { same = λ b. at b }
  where
    at : (b : List ℕ) → times b (pins_in (set_value (same_text a) es w)) ≡ times b (a ∷ pins_in es)
    at b =
        let both = with_value b a es v w e in
        let count : w.pins ≡ suc v.pins = omega arith in
        let again : times b (replicate w.pins a) ≡ one b a + times b (replicate v.pins a) =
        ap (λ n. times b (replicate n a)) count ∙ repeated b a v.pins in
        let first = times-cons b a (pins_in es) in
        omega arith

-- one pin less
pub same_when_unpinned : (es : List KeptEntry) (a : List ℕ) (v w : Entry)
    → lookup (same_text a) es ≡ Some v → v.pins ≡ w.pins + 1
    → SamePins (pins_in es) (a ∷ pins_in (set_value (same_text a) es w))
same_when_unpinned es a v w e less = record { same = λ b. at b }
  where
    at : (b : List ℕ) → times b (a ∷ pins_in (set_value (same_text a) es w)) ≡ times b (pins_in es)
    at b =
        let both = with_value b a es v w e in
        let count : v.pins ≡ suc w.pins = omega arith in
        let again : times b (replicate v.pins a) ≡ one b a + times b (replicate w.pins a) =
        ap (λ n. times b (replicate n a)) count ∙ repeated b a w.pins in
        let first = times-cons b a (pins_in (set_value (same_text a) es w)) in
        omega arith

-- ---- how often an address is pinned

all_same : (a : List ℕ) (n : ℕ) → times a (replicate n a) ≡ n
all_same a zero = refl
all_same a (suc n) =
    let rest = all_same a n in
    let more : times a (replicate n a) + 1 ≡ suc n = omega arith in
    ap (λ t. if t then times a (replicate n a) + 1 else times a (replicate n a)) (text_refl a)
    ∙ more

none_same : (a x : List ℕ) (n : ℕ) → same_text x a ≡ false → times a (replicate n x) ≡ 0
none_same a x zero e = refl
none_same a x (suc n) e =
    ap (λ t. if t then times a (replicate n x) + 1 else times a (replicate n x)) e
    ∙ none_same a x n e

unpinned : (es : List KeptEntry) (a : List ℕ) → NonePasses (same_text a) es
    → times a (pins_in es) ≡ 0
unpinned [] a h = refl
unpinned (e ∷ es) a h =
    let here = times-append a (pins_of e) (pins_in es) in
    let mine_is = none_same a e.0 e.1.pins (text_turned e.0 a ∙ h.0) in
    let rest = unpinned es a h.1 in
    omega arith

-- an address is pinned as often as its entry says
pub count_is : (es : List KeptEntry) (a : List ℕ) → IsDistinct same_text (keys_of es)
    → times a (pins_in es) ≡ option_map_or (λ v. v.pins) (lookup (same_text a) es) 0
count_is [] a d = refl
count_is (e ∷ es) a d =
    by (same_text a e.0) refl (count_is es a (IsDistinct-tail same_text e.0 (keys_of es) d))
  where
    by : (t : Bool) → same_text a e.0 ≡ t
        → times a (pins_in es) ≡ option_map_or (λ v. v.pins) (lookup (same_text a) es) 0
        → times a (pins_in (e ∷ es))
        ≡ option_map_or (λ v. v.pins)
        (cond (same_text a e.0) (Some e.1) (lookup (same_text a) es)) 0
    by true t again =
        let key : a ≡ e.0 = text_is a e.0 t in
        let here = times-append a (pins_of e) (pins_in es) in
        let all : times a (pins_of e) ≡ e.1.pins =
        ap (λ k. times a (replicate e.1.pins k)) (sym key) ∙ all_same a e.1.pins in
        let rest = unpinned es a (none_past_head nat_list_eq_equiv a e es d t) in
        let sum : times a (pins_in (e ∷ es)) ≡ e.1.pins = omega arith in
        sum ∙ sym (ap (λ u. option_map_or (λ v. v.pins)
        (cond u (Some e.1) (lookup (same_text a) es)) 0) t)
    by false t again =
        let here = times-append a (pins_of e) (pins_in es) in
        let none = none_same a e.0 e.1.pins (text_turned e.0 a ∙ t) in
        let sum : times a (pins_in (e ∷ es))
        ≡ option_map_or (λ v. v.pins) (lookup (same_text a) es) 0 = omega arith in
        sum ∙ sym (ap (λ u. option_map_or (λ v. v.pins)
        (cond u (Some e.1) (lookup (same_text a) es)) 0) t)

-- an entry has no more pins than its address
pub at_most : (es : List KeptEntry) (a : List ℕ) (v : Entry) → lookup (same_text a) es ≡ Some v
    → v.pins ≤ times a (pins_in es)
at_most [] a v e = cc
at_most (x ∷ xs) a v e = by (same_text a x.0) refl (at_most xs a v) e
  where
    by : (t : Bool) → same_text a x.0 ≡ t
        → (lookup (same_text a) xs ≡ Some v → v.pins ≤ times a (pins_in xs))
        → cond t (Some x.1) (lookup (same_text a) xs) ≡ Some v → v.pins ≤ times a (pins_in (x ∷ xs))
    by true t again h =
        let value : x.1 ≡ v = cc in
        let key : a ≡ x.0 = text_is a x.0 t in
        let here = times-append a (pins_of x) (pins_in xs) in
        let all : times a (pins_of x) ≡ v.pins =
        ap (λ k. times a (replicate x.1.pins k)) (sym key) ∙ all_same a x.1.pins
        ∙ ap (λ u. u.pins) value in
        omega arith
    by false t again h =
        let here = times-append a (pins_of x) (pins_in xs) in
        let rest = again h in
        omega arith

-- ---- entry by entry

-- each entry has the pins that there are of its address
abbrev pub IsCounted : List (List ℕ) → List KeptEntry → Type 0
IsCounted pins es = AllByRecursion (λ e. times e.0 pins ≡ e.1.pins) es

counted_beside : (e : KeptEntry) (pins : List (List ℕ)) (es : List KeptEntry)
    → AllByRecursion (λ k. same_text e.0 k ≡ false) (keys_of es)
    → IsCounted pins es → IsCounted (pins_of e ++ pins) es
counted_beside e pins [] apart h = tt
counted_beside e pins (x ∷ xs) apart h =
    let both = times-append x.0 (pins_of e) pins in
    let none = none_same x.0 e.0 e.1.pins apart.0 in
    let own = h.0 in
    (omega arith, counted_beside e pins xs apart.1 h.1)

pub counted_all : (es : List KeptEntry) → IsDistinct same_text (keys_of es)
    → IsCounted (pins_in es) es
counted_all [] d = tt
counted_all (e ∷ es) d =
    let both = times-append e.0 (pins_of e) (pins_in es) in
    let own = all_same e.0 e.1.pins in
    let none = unpinned es e.0 (none_past_head nat_list_eq_equiv e.0 e es d (text_refl e.0)) in (
      omega arith,
      counted_beside e (pins_in es) es (IsDistinct-head same_text e.0 (keys_of es) d)
          (counted_all es (IsDistinct-tail same_text e.0 (keys_of es) d)),
    )

-- all but the last, and the last
pub counted_front : (pins : List (List ℕ)) (es : List KeptEntry) (e : KeptEntry)
    → IsCounted pins (es ++ e ∷ []) → IsCounted pins es × (times e.0 pins ≡ e.1.pins)
counted_front pins [] e h = (tt, h.0)
counted_front pins (x ∷ xs) e h =
    let rest = counted_front pins xs e h.1 in ((h.0, rest.0), rest.1)
