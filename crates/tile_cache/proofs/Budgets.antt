-- The bytes of residents, and of what is evicted.
use Rattle.std.specs.Prelude.{if◌then◌else◌}
use Rattle.std.proofs.Common.{ℕ, ◌+◌, ◌-◌, ◌≤◌, ◌<◌, ◌≡◌, ◌⊎◌, inl, inr, Bool, true, false, not}
use Rattle.std.proofs.Common.{cond}
use Rattle.std.proofs.Common.{List, [], ◌∷◌, ◌++◌, filter, reverse, refl, sym, ◌∙◌, ap, arith}
use Rattle.std.proofs.Common.{zero-add}
use Rattle.std.proofs.Common.{nat_le, leb-true, length, ◌||◌, map, subst}
use Rattle.std.specs.List.{list_any}
use Rattle.std.proofs.lemmas.List.Elements.{filter-append}
use Rattle.std.proofs.lemmas.List.{reverse-append}
use Rattle.std.proofs.lemmas.List.Folds.{list_any-append}
use Rattle.tile_cache.specs.Pins.{times}
use Rattle.tile_cache.specs.Residents.{Resident, bytes_in, moved_up, same_text, without}
use Rattle.tile_cache.specs.Room.{bytes_held, until_within, evicted_by}
use Rattle.tile_cache.proofs.Texts.{text_refl, text_turned, text_is, or_left}

pub bytes-append : (xs ys : List Resident) → bytes_in (xs ++ ys) ≡ bytes_in xs + bytes_in ys
bytes-append [] ys = sym (zero-add (bytes_in ys))
bytes-append (x ∷ xs) ys = let rest = bytes-append xs ys in omega arith

pub bytes_parts : (q : Resident → Bool) (rs : List Resident)
    → bytes_in (filter q rs) + bytes_in (filter (λ r. not (q r)) rs) ≡ bytes_in rs
bytes_parts q [] = refl
bytes_parts q (r ∷ rs) = by (q r) (bytes_parts q rs)
  where
    by : (b : Bool)
        → bytes_in (filter q rs) + bytes_in (filter (λ x. not (q x)) rs) ≡ bytes_in rs
        → bytes_in (cond b (r ∷ filter q rs) (filter q rs))
        + bytes_in (cond (not b) (r ∷ filter (λ x. not (q x)) rs) (filter (λ x. not (q x)) rs))
        ≡ length r.content + bytes_in rs
    by true h = omega arith
    by false h = omega arith

pub bytes_reversed : (q : Resident → Bool) (rs : List Resident)
    → bytes_in (filter q (reverse rs)) ≡ bytes_in (filter q rs)
bytes_reversed q [] = refl
bytes_reversed q (r ∷ rs) =
    ap (λ xs. bytes_in (filter q xs)) (reverse-append (r ∷ []) rs)
    ∙ ap bytes_in (filter-append q (reverse rs) (r ∷ []))
    ∙ bytes-append (filter q (reverse rs)) (filter q (r ∷ []))
    ∙ ap (λ n. n + bytes_in (filter q (r ∷ []))) (bytes_reversed q rs)
    ∙ last (q r)
  where
    last : (b : Bool) → bytes_in (filter q rs) + bytes_in (cond b (r ∷ []) [])
        ≡ bytes_in (cond b (r ∷ filter q rs) (filter q rs))
    last true = omega arith
    last false = omega arith

all_pass : (rs : List Resident) → filter (λ _. true) rs ≡ rs
all_pass [] = refl
all_pass (r ∷ rs) = ap (λ xs. r ∷ xs) (all_pass rs)

pub bytes-reverse : (rs : List Resident) → bytes_in (reverse rs) ≡ bytes_in rs
bytes-reverse rs =
    ap bytes_in (sym (all_pass (reverse rs))) ∙ bytes_reversed (λ _. true) rs
    ∙ ap bytes_in (all_pass rs)

-- ---- the bytes of what `until_within` gives

abbrev pub taken : ℕ → ℕ → List Resident → ℕ
taken budget bytes [] = 0
taken budget bytes (r ∷ rs) =
    if nat_le bytes budget then 0
    else length r.content + taken budget (bytes - length r.content) rs

-- they are enough, or all there are
pub enough_or_all : (budget bytes : ℕ) (rs : List Resident)
    → (bytes ≤ budget + taken budget bytes rs) ⊎ (taken budget bytes rs ≡ bytes_in rs)
enough_or_all budget bytes [] = inr refl
enough_or_all budget bytes (r ∷ rs) =
    by (nat_le bytes budget) refl (enough_or_all budget (bytes - length r.content) rs)
  where
    more : ℕ
    more = taken budget (bytes - length r.content) rs

    by : (b : Bool) → nat_le bytes budget ≡ b
        → (bytes - length r.content ≤ budget + more) ⊎ (more ≡ bytes_in rs)
        → (bytes ≤ budget + (if b then 0 else length r.content + more))
        ⊎ ((if b then 0 else length r.content + more) ≡ length r.content + bytes_in rs)
    by true e rest = let h = leb-true bytes budget e in inl (omega arith)
    by false e (inl h) = inl (omega arith)
    by false e (inr h) = inr (omega arith)

-- and no more than all
pub taken_within : (budget bytes : ℕ) (rs : List Resident) → taken budget bytes rs ≤ bytes_in rs
taken_within budget bytes [] = omega arith
taken_within budget bytes (r ∷ rs) =
    by (nat_le bytes budget) (taken_within budget (bytes - length r.content) rs)
  where
    by : (b : Bool) → taken budget (bytes - length r.content) rs ≤ bytes_in rs
        → (if b then 0 else length r.content
        + taken budget (bytes - length r.content) rs) ≤ length r.content + bytes_in rs
    by true rest = omega arith
    by false rest = omega arith

-- ---- the residents at the addresses that are evicted

-- the resident is at one of the addresses
abbrev pub is_among : List (List ℕ) → Resident → Bool
is_among out r = list_any (same_text r.address) out

-- an address isn't among what goes where it is neither the first nor among the others
first : (a : List ℕ) (r : Resident) (budget bytes : ℕ) (rest : List Resident)
    → same_text a r.address ≡ false
    → list_any (same_text a) (until_within budget (bytes - length r.content) rest) ≡ false
    → list_any (same_text a) (until_within budget bytes (r ∷ rest)) ≡ false
first a r budget bytes rest e h = by (nat_le bytes budget)
  where
    others : List (List ℕ)
    others = until_within budget (bytes - length r.content) rest

    by : (b : Bool) → list_any (same_text a) (if b then [] else r.address ∷ others) ≡ false
    by true = refl
    by false = ap (λ t. t || list_any (same_text a) others) e ∙ h

-- what is evicted isn't held
pub none_held : (held : List ℕ → Bool) (a : List ℕ) (budget bytes : ℕ) (rs : List Resident)
    → held a ≡ true
    → list_any (same_text a) (until_within budget bytes (filter (λ r. not (held r.address)) rs))
    ≡ false
none_held held a budget bytes [] h = refl
none_held held a budget bytes (r ∷ rs) h =
    by (held r.address) refl (λ n. none_held held a budget n rs h)
  where
    rest : List Resident
    rest = filter (λ x. not (held x.address)) rs

    apart : (t : Bool) → held r.address ≡ false → same_text a r.address ≡ t
        → same_text a r.address ≡ false
    apart true e t = let same : held a ≡ held r.address = ap held (text_is a r.address t) in cc
    apart false e t = t

    by : (b : Bool) → held r.address ≡ b
        → ((n : ℕ) → list_any (same_text a) (until_within budget n rest) ≡ false)
        → list_any (same_text a) (until_within budget bytes (cond (not b) (r ∷ rest) rest)) ≡ false
    by true e again = again bytes
    by false e again =
        first a r budget bytes rest (apart (same_text a r.address) e refl)
        (again (bytes - length r.content))

-- nor is what stands nowhere
pub none_absent : (p : Resident → Bool) (a : List ℕ) (budget bytes : ℕ) (rs : List Resident)
    → list_any (λ r. same_text r.address a) rs ≡ false
    → list_any (same_text a) (until_within budget bytes (filter p rs)) ≡ false
none_absent p a budget bytes [] h = refl
none_absent p a budget bytes (r ∷ rs) h =
    by (same_text r.address a) (p r) refl (λ n g. none_absent p a budget n rs g) h
  where
    rest : List Resident
    rest = filter p rs

    by : (t b : Bool) → same_text r.address a ≡ t
        → ((n : ℕ) → list_any (λ x. same_text x.address a) rs ≡ false
        → list_any (same_text a) (until_within budget n rest) ≡ false)
        → (t || list_any (λ x. same_text x.address a) rs) ≡ false
        → list_any (same_text a) (until_within budget bytes (cond b (r ∷ rest) rest)) ≡ false
    by true b e again g = cc
    by false true e again g =
        first a r budget bytes rest (text_turned a r.address ∙ e)
        (again (bytes - length r.content) g)
    by false false e again g = again bytes g

-- ---- no address stands twice

abbrev pub addresses_of : List Resident → List (List ℕ)
addresses_of = map (λ r. r.address)

abbrev pub IsApart : List Resident → Type 0
IsApart rs = (a : List ℕ) → times a (addresses_of rs) ≤ 1

times-snoc : (a : List ℕ) (xs : List Resident) (r : Resident)
    → times a (addresses_of (xs ++ r ∷ [])) ≡ times a (addresses_of (r ∷ xs))
times-snoc a [] r = refl
times-snoc a (x ∷ xs) r = by (same_text x.address a) (same_text r.address a) (times-snoc a xs r)
  where
    tail : ℕ
    tail = times a (addresses_of (xs ++ r ∷ []))

    n : ℕ
    n = times a (addresses_of xs)

    by : (s t : Bool) → tail ≡ (if t then n + 1 else n)
        → (if s then tail + 1 else tail)
        ≡ (if t then (if s then n + 1 else n) + 1 else (if s then n + 1 else n))
    by true true h = omega arith
    by true false h = omega arith
    by false true h = omega arith
    by false false h = omega arith

times-reverse : (a : List ℕ) (rs : List Resident)
    → times a (addresses_of (reverse rs)) ≡ times a (addresses_of rs)
times-reverse a [] = refl
times-reverse a (r ∷ rs) =
    ap (λ xs. times a (addresses_of xs)) (reverse-append (r ∷ []) rs)
    ∙ times-snoc a (reverse rs) r
    ∙ ap (λ n. if same_text r.address a then n + 1 else n) (times-reverse a rs)

apart_tail : (r : Resident) (rs : List Resident) → IsApart (r ∷ rs) → IsApart rs
apart_tail r rs d a = by (same_text r.address a) (d a)
  where
    n : ℕ
    n = times a (addresses_of rs)

    by : (t : Bool) → (if t then n + 1 else n) ≤ 1 → n ≤ 1
    by true h = omega arith
    by false h = h

nowhere : (a : List ℕ) (rs : List Resident) → times a (addresses_of rs) ≡ 0
    → list_any (λ r. same_text r.address a) rs ≡ false
nowhere a [] h = refl
nowhere a (r ∷ rs) h = by (same_text r.address a) (nowhere a rs) h
  where
    n : ℕ
    n = times a (addresses_of rs)

    by : (t : Bool) → (n ≡ 0 → list_any (λ x. same_text x.address a) rs ≡ false)
        → (if t then n + 1 else n) ≡ 0
        → (t || list_any (λ x. same_text x.address a) rs) ≡ false
    by true again g = absurd (omega (arith, g))
    by false again g = again g

not_again : (r : Resident) (rs : List Resident) → IsApart (r ∷ rs)
    → list_any (λ x. same_text x.address r.address) rs ≡ false
not_again r rs d =
    let here : (if same_text r.address r.address then n + 1 else n) ≡ n + 1 =
    ap (λ t. if t then n + 1 else n) (text_refl r.address) in
    let once = d r.address in
    nowhere r.address rs (omega arith)
  where
    n : ℕ
    n = times r.address (addresses_of rs)

-- ---- exactly these bytes go

none_among : (rs : List Resident) → filter (is_among []) rs ≡ []
none_among [] = refl
none_among (r ∷ rs) = none_among rs

one_more : (a : List ℕ) (out : List (List ℕ)) (rs : List Resident)
    → list_any (λ r. same_text r.address a) rs ≡ false
    → filter (is_among (a ∷ out)) rs ≡ filter (is_among out) rs
one_more a out [] h = refl
one_more a out (r ∷ rs) h = by (same_text r.address a) (one_more a out rs) h
  where
    by : (t : Bool)
        → (list_any (λ x. same_text x.address a) rs ≡ false
        → filter (is_among (a ∷ out)) rs ≡ filter (is_among out) rs)
        → (t || list_any (λ x. same_text x.address a) rs) ≡ false
        → cond (t || is_among out r) (r ∷ filter (is_among (a ∷ out)) rs)
        (filter (is_among (a ∷ out)) rs)
        ≡ cond (is_among out r) (r ∷ filter (is_among out) rs) (filter (is_among out) rs)
    by true again g = cc
    by false again g = ap (λ xs. cond (is_among out r) (r ∷ xs) xs) (again g)

-- what goes of a list of residents
abbrev gone : (List ℕ → Bool) → ℕ → ℕ → List Resident → List (List ℕ)
gone held budget bytes rs = until_within budget bytes (filter (λ r. not (held r.address)) rs)

exact : (held : List ℕ → Bool) (budget bytes : ℕ) (rs : List Resident) → IsApart rs
    → bytes_in (filter (is_among (gone held budget bytes rs)) rs)
    ≡ taken budget bytes (filter (λ r. not (held r.address)) rs)
exact held budget bytes [] d = refl
exact held budget bytes (r ∷ rs) d =
    by (held r.address) refl (λ n. exact held budget n rs (apart_tail r rs d))
  where
    rest : List Resident
    rest = filter (λ x. not (held x.address)) rs

    less : ℕ
    less = bytes - length r.content

    out : List (List ℕ)
    out = until_within budget less rest

    within : (b : Bool)
        → bytes_in (filter (is_among out) rs) ≡ taken budget less rest
        → bytes_in (filter (is_among (if b then [] else r.address ∷ out)) (r ∷ rs))
        ≡ (if b then 0 else length r.content + taken budget less rest)
    within true again = ap bytes_in (none_among rs)
    within false again =
        let goes : is_among (r.address ∷ out) r ≡ true =
        or_left (same_text r.address r.address) (is_among out r) (text_refl r.address) in
        ap (λ t. bytes_in (cond t (r ∷ filter (is_among (r.address ∷ out)) rs)
        (filter (is_among (r.address ∷ out)) rs))) goes
        ∙ ap (λ xs. length r.content + bytes_in xs)
        (one_more r.address out rs (not_again r rs d))
        ∙ ap (λ n. length r.content + n) again

    by : (h : Bool) → held r.address ≡ h
        → ((n : ℕ) → bytes_in (filter (is_among (until_within budget n rest)) rs)
        ≡ taken budget n rest)
        → bytes_in (filter (is_among (until_within budget bytes (cond (not h) (r ∷ rest) rest)))
        (r ∷ rs)) ≡ taken budget bytes (cond (not h) (r ∷ rest) rest)
    by true h again =
        let stays : is_among (until_within budget bytes rest) r ≡ false =
        none_held held r.address budget bytes rs h in
        ap (λ t. bytes_in (cond t (r ∷ filter (is_among (until_within budget bytes rest)) rs)
        (filter (is_among (until_within budget bytes rest)) rs))) stays
        ∙ again bytes
    by false h again = within (nat_le bytes budget) (again less)

-- how many bytes go for so many
abbrev pub bytes_gone : (List ℕ → Bool) → ℕ → List Resident → ℕ → ℕ
bytes_gone held budget rs size =
    taken budget (bytes_in rs + size) (filter (λ r. not (held r.address)) (reverse rs))

-- the bytes of what goes, and those of what stays
pub gone_and_left : (held : List ℕ → Bool) (budget : ℕ) (rs : List Resident) (size : ℕ)
    → IsApart rs
    → bytes_gone held budget rs size + bytes_in (without (evicted_by held budget rs size) rs)
    ≡ bytes_in rs
gone_and_left held budget rs size d =
    let out : List (List ℕ) = evicted_by held budget rs size in
    let turned = bytes_reversed (is_among out) rs in
    let same = exact held budget (bytes_in rs + size) (reverse rs)
    (λ a. subst (λ n. n ≤ 1) (sym (times-reverse a rs)) (d a)) in
    ap (λ n. n + bytes_in (without out rs)) (sym same ∙ turned)
    ∙ bytes_parts (is_among out) rs

-- either what isn't held is enough, or all of it goes
pub held_or_enough : (held : List ℕ → Bool) (budget free : ℕ) (rs : List Resident) (size : ℕ)
    → free + bytes_in rs ≡ budget
    → (size ≤ free + bytes_gone held budget rs size
    → bytes_held held rs + size ≤ budget)
    × (free + bytes_gone held budget rs size < size
    → free + bytes_gone held budget rs size + bytes_held held rs ≡ budget)
held_or_enough held budget free rs size e =
    let unheld : List Resident = filter (λ r. not (held r.address)) (reverse rs) in
    let parts = bytes_parts (λ r. held r.address) rs in
    let turned = bytes_reversed (λ r. not (held r.address)) rs in
    let most = taken_within budget (bytes_in rs + size) unheld in (
      λ h. omega arith,
      λ h. sums (bytes_in rs) size budget free (bytes_gone held budget rs size) (bytes_in unheld)
          (bytes_in (filter (λ r. not (held r.address)) rs)) (bytes_held held rs) e parts turned h
          (enough_or_all budget (bytes_in rs + size) unheld),
    )
  where
    sums : (t n b f g u u' h : ℕ) → f + t ≡ b → h + u' ≡ t → u ≡ u' → f + g < n
        → (t + n ≤ b + g) ⊎ (g ≡ u) → f + g + h ≡ b
    sums t n b f g u u' h e1 e2 e3 e4 (inl e5) = absurd (omega (arith, e1, e4, e5))
    sums t n b f g u u' h e1 e2 e3 e4 (inr e5) = omega arith

-- ---- the order changes nothing

pub bytes-moved_up : (rs : List Resident) (a : List ℕ) → bytes_in (moved_up rs a) ≡ bytes_in rs
bytes-moved_up rs a =
    bytes-append (filter (λ r. same_text r.address a) rs)
    (filter (λ r. not (same_text r.address a)) rs)
    ∙ bytes_parts (λ r. same_text r.address a) rs

-- nor which addresses there are
pub any-reverse : (rs : List Resident) (a : List ℕ)
    → list_any (λ r. same_text r.address a) (reverse rs)
    ≡ list_any (λ r. same_text r.address a) rs
any-reverse [] a = refl
any-reverse (r ∷ rs) a =
    ap (list_any (λ x. same_text x.address a)) (reverse-append (r ∷ []) rs)
    ∙ list_any-append (λ x. same_text x.address a) (reverse rs) (r ∷ [])
    ∙ ap (λ b. b || (same_text r.address a || false)) (any-reverse rs a)
    ∙ turned (list_any (λ x. same_text x.address a) rs) (same_text r.address a)
  where
    turned : (s t : Bool) → (s || (t || false)) ≡ (t || s)
    turned true true = refl
    turned true false = refl
    turned false true = refl
    turned false false = refl
