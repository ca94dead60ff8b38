-- The bytes of the residents stay within the budget.
use Rattle.std.specs.Prelude.{if◌then◌else◌}
use Rattle.std.proofs.Common.{ℕ, ◌+◌, ◌-◌, ◌≤◌, ◌≡◌, ◌⊎◌, inl, inr, Bool, true, false, not, ◌&&◌, cond, List, [], ◌∷◌, ◌++◌, filter, reverse, refl, sym, ◌∙◌, ap, arith, zero-add, nat_le, leb-true}
use Rattle.std.specs.List.{list_any}
use Rattle.std.proofs.lemmas.List.Elements.{filter-append}
use Rattle.std.proofs.lemmas.List.{reverse-append}
use Rattle.tile_cache.specs.Residents.{same_text}
use Rattle.tile_cache.proofs.Texts.{or_left, or_right, not_true, text_refl}
use Rattle.cut_core.specs.Visits.{content_key}
use Rattle.cut_core.proofs.Bools.{and_left, and_right}
use Rattle.engine_state.specs.declared.entry.Entry.{Entry}
use Rattle.engine_state.specs.declared.entry.Entry.TheVariants.{Opened, Looked, LookRefused, Returned, Taken, DocumentArrived, ContentArrived, Squeezed, Absent, Failed, Starved, Retried, Closed}
use Rattle.engine_state.specs.declared.resident.Resident.{Resident}
use Rattle.engine_state.specs.State.{State}
use Rattle.engine_state.specs.Frames.{addresses_of, frame_lines}
use Rattle.engine_state.specs.Loading.{flies}
use Rattle.engine_state.specs.Room.{all_moved_up, bytes_held, bytes_in, evicted, fits, in_use, moved_up, until_within, without}
use Rattle.engine_state.specs.Allowed.{allowed}
use Rattle.engine_state.specs.After.{after}
use Rattle.engine_state.proofs.Lists.{texts_are}

bytes-append : (xs ys : List Resident) → bytes_in (xs ++ ys) ≡ bytes_in xs + bytes_in ys
bytes-append [] ys = sym (zero-add (bytes_in ys))
bytes-append (x ∷ xs) ys = let ih = bytes-append xs ys in omega arith

bytes_parts : (q : Resident → Bool) (rs : List Resident)
    → bytes_in (filter q rs) + bytes_in (filter (λ r. not (q r)) rs) ≡ bytes_in rs
bytes_parts q [] = refl
bytes_parts q (r ∷ rs) =
    let ih = bytes_parts q rs in
    elim (q r) as (λ b. bytes_in (cond b (r ∷ filter q rs) (filter q rs))
    + bytes_in (cond (not b) (r ∷ filter (λ x. not (q x)) rs) (filter (λ x. not (q x)) rs))
    ≡ r.facts.length + bytes_in rs) [
      | true ↦ omega arith
      | false ↦ omega arith
    ]

moved_bytes : (addresses : List (List ℕ)) (rs : List Resident)
    → bytes_in (all_moved_up addresses rs) ≡ bytes_in rs
moved_bytes [] rs = refl
moved_bytes (a ∷ rest) rs =
    moved_bytes rest (moved_up rs a)
    ∙ bytes-append (filter (λ r. same_text r.address a) rs)
    (filter (λ r. not (same_text r.address a)) rs)
    ∙ bytes_parts (λ r. same_text r.address a) rs

one_bytes : (q : Resident → Bool) (r : Resident) (rs : List Resident)
    → bytes_in (filter q rs) + bytes_in (filter q (r ∷ [])) ≡ bytes_in (filter q (r ∷ rs))
one_bytes q r rs =
    elim (q r) as (λ b. bytes_in (filter q rs) + bytes_in (cond b (r ∷ []) [])
    ≡ bytes_in (cond b (r ∷ filter q rs) (filter q rs))) [
      | true ↦ omega arith
      | false ↦ omega arith
    ]

bytes_reversed : (q : Resident → Bool) (rs : List Resident)
    → bytes_in (filter q (reverse rs)) ≡ bytes_in (filter q rs)
bytes_reversed q [] = refl
bytes_reversed q (r ∷ rs) =
    ap (λ xs. bytes_in (filter q xs)) (reverse-append (r ∷ []) rs)
    ∙ ap bytes_in (filter-append q (reverse rs) (r ∷ []))
    ∙ bytes-append (filter q (reverse rs)) (filter q (r ∷ []))
    ∙ ap (λ n. n + bytes_in (filter q (r ∷ []))) (bytes_reversed q rs)
    ∙ one_bytes q r rs

bytes_fewer : (p q : Resident → Bool) (rs : List Resident)
    → bytes_in (filter p (filter q rs)) ≤ bytes_in (filter p rs)
bytes_fewer p q [] = omega arith
bytes_fewer p q (r ∷ rs) =
    let ih = bytes_fewer p q rs in
    elim (q r) as (λ b. bytes_in (filter p (cond b (r ∷ filter q rs) (filter q rs)))
    ≤ bytes_in (cond (p r) (r ∷ filter p rs) (filter p rs))) [
      | true ↦ elim (p r) as (λ c.
          bytes_in (cond c (r ∷ filter p (filter q rs)) (filter p (filter q rs)))
          ≤ bytes_in (cond c (r ∷ filter p rs) (filter p rs))) [ true ↦ omega arith | false ↦ ih ]
      | false ↦ elim (p r) as (λ c. bytes_in (filter p (filter q rs))
          ≤ bytes_in (cond c (r ∷ filter p rs) (filter p rs))) [ true ↦ omega arith | false ↦ ih ]
    ]

-- the bytes of what until_within gives
taken : ℕ → ℕ → List Resident → ℕ
taken budget bytes [] = 0
taken budget bytes (r ∷ rs) =
    if nat_le bytes budget then 0
    else r.facts.length + taken budget (bytes - r.facts.length) rs

enough_or_all : (budget bytes : ℕ) (rs : List Resident)
    → (bytes ≤ budget + taken budget bytes rs) ⊎ (taken budget bytes rs ≡ bytes_in rs)
unfolding taken
enough_or_all budget bytes [] = inr refl
enough_or_all budget bytes (r ∷ rs) =
    elim (nat_le bytes budget) as (λ b. nat_le bytes budget ≡ b
    → (bytes ≤ budget + (if b then 0 else r.facts.length
    + taken budget (bytes - r.facts.length) rs))
    ⊎ ((if b then 0 else r.facts.length + taken budget (bytes - r.facts.length) rs)
    ≡ r.facts.length + bytes_in rs)) [
      | true ↦ λ e. let h = leb-true bytes budget e in inl (omega arith)
      | false ↦ λ e. elim (enough_or_all budget (bytes - r.facts.length) rs) [
        | inl h ↦ inl (omega arith)
        | inr h ↦ inr (omega arith)
      ]
    ] refl

-- they are among the bytes of all residents of these addresses
taken_among : (out : List (List ℕ)) (budget bytes : ℕ) (rs : List Resident)
    → ((a : List ℕ) → list_any (same_text a) (until_within budget bytes rs) ≡ true
    → list_any (same_text a) out ≡ true)
    → taken budget bytes rs ≤ bytes_in (filter (λ r. list_any (same_text r.address) out) rs)
unfolding taken
taken_among out budget bytes [] h = omega arith
taken_among out budget bytes (r ∷ rs) h =
    elim (nat_le bytes budget) as (λ b.
    ((a : List ℕ) → list_any (same_text a)
    (if b then [] else r.address ∷ until_within budget (bytes - r.facts.length) rs) ≡ true
    → list_any (same_text a) out ≡ true)
    → (if b then 0 else r.facts.length + taken budget (bytes - r.facts.length) rs)
    ≤ bytes_in (filter (λ x. list_any (same_text x.address) out) (r ∷ rs))) [
      | true ↦ λ k. omega arith
      | false ↦ λ k.
          let ih = taken_among out budget (bytes - r.facts.length) rs
          (λ a e. k a (or_right (same_text a r.address) _ e)) in
          let in_out : list_any (same_text r.address) out ≡ true =
          k r.address (or_left _ _ (text_refl r.address)) in
          elim (list_any (same_text r.address) out) as (λ c.
          list_any (same_text r.address) out ≡ c
          → r.facts.length + taken budget (bytes - r.facts.length) rs
          ≤ bytes_in (cond c (r ∷ filter (λ x. list_any (same_text x.address) out) rs)
          (filter (λ x. list_any (same_text x.address) out) rs))) [
            | true ↦ λ e. omega arith
            | false ↦ λ e. cc
          ] refl
    ] h

room_made : (s : State) (size : ℕ) → fits s size ≡ true
    → size + bytes_in (without (evicted s size) s.residents) ≤ s.budget
room_made s size e =
    let rs : List Resident = s.residents in
    let q : Resident → Bool = λ r. in_use s r.address in
    let free : List Resident = filter (λ r. not (in_use s r.address)) (reverse rs) in
    let out : List (List ℕ) = evicted s size in
    let gone : Resident → Bool = λ r. list_any (same_text r.address) out in
    let bytes : ℕ = bytes_in rs + size in
    let held : ℕ = bytes_held (in_use s) rs in
    let within : held + size ≤ s.budget = leb-true (held + size) s.budget e in
    let parts : bytes_in (filter q rs) + bytes_in (filter (λ r. not (in_use s r.address)) rs)
    ≡ bytes_in rs = bytes_parts q rs in
    let turned : bytes_in free ≡ bytes_in (filter (λ r. not (in_use s r.address)) rs) =
    bytes_reversed (λ r. not (in_use s r.address)) rs in
    let split : bytes_in (filter gone rs) + bytes_in (without out rs) ≡ bytes_in rs =
    bytes_parts gone rs in
    let among : taken s.budget bytes free ≤ bytes_in (filter gone free) =
    taken_among out s.budget bytes free (λ a h. h) in
    let fewer : bytes_in (filter gone free) ≤ bytes_in (filter gone (reverse rs)) =
    bytes_fewer gone (λ r. not (in_use s r.address)) (reverse rs) in
    let turned_gone : bytes_in (filter gone (reverse rs)) ≡ bytes_in (filter gone rs) =
    bytes_reversed gone rs in
    sums held (bytes_in free) (bytes_in (filter (λ r. not (in_use s r.address)) rs))
    (bytes_in rs) (bytes_in (filter gone free)) (bytes_in (filter gone (reverse rs)))
    (bytes_in (filter gone rs)) (bytes_in (without out rs)) (taken s.budget bytes free) s.budget
    size within parts turned split among fewer turned_gone (enough_or_all s.budget bytes free)
  where
    sums : (h f f' t g g' g'' w k b n : ℕ) → h + n ≤ b → h + f' ≡ t → f ≡ f' → g'' + w ≡ t
        → k ≤ g → g ≤ g' → g' ≡ g'' → (t + n ≤ b + k) ⊎ (k ≡ f) → n + w ≤ b
    sums h f f' t g g' g'' w k b n e1 e2 e3 e4 e5 e6 e7 (inl e8) = omega arith
    sums h f f' t g g' g'' w k b n e1 e2 e3 e4 e5 e6 e7 (inr e8) = omega arith

-- within the budget, and nothing is resident before the engine is opened
pub record IsSound (s : State) : Type 0 where
  pub within : bytes_in s.residents ≤ s.budget
  pub fresh : s.opened ≡ false → bytes_in s.residents ≡ 0

is_opened : (s : State) → (s.opened && not s.closed) ≡ true → s.opened ≡ true
is_opened s e = and_left _ _ e

pub sound_step : (s : State) (e : Entry) → allowed s e ≡ true → IsSound s → IsSound (after s e)
sound_step s (Opened root bytes budget order) a p =
    let none = p.fresh (not_true s.opened (and_left _ _ a)) in
    record { within = omega arith; fresh = λ h. cc }
sound_step s (Looked pass id viewer view settled) a p =
    let is_open : s.opened ≡ true = is_opened s (and_left _ _ a) in
    let same = moved_bytes (addresses_of (frame_lines s view)) s.residents in
    let old = p.within in
    record { within = omega arith; fresh = λ h. cc }
sound_step s (LookRefused pass viewer view settled why) a p =
    record { within = p.within; fresh = p.fresh }
sound_step s (Returned pass id) a p = record { within = p.within; fresh = p.fresh }
sound_step s (Taken pass key) a p = record { within = p.within; fresh = p.fresh }
sound_step s (DocumentArrived pass key bytes) a p = record { within = p.within; fresh = p.fresh }
sound_step s (ContentArrived pass address size digest out) a p =
    let is_open : s.opened ≡ true = and_left _ _ a in
    let rest = and_right (flies s pass (content_key address)) _ (and_right s.opened _ a) in
    let is = texts_are out (evicted s size) (and_right (fits s size) _ rest) in
    let made = room_made s size (and_left _ _ rest) in
    let same = ap (λ xs. bytes_in (without xs s.residents)) is in
    record { within = omega arith; fresh = λ h. cc }
sound_step s (Squeezed pass address size) a p = record { within = p.within; fresh = p.fresh }
sound_step s (Absent pass key why) a p = record { within = p.within; fresh = p.fresh }
sound_step s (Failed pass key count) a p = record { within = p.within; fresh = p.fresh }
sound_step s (Starved pass key) a p = record { within = p.within; fresh = p.fresh }
sound_step s (Retried pass) a p = record { within = p.within; fresh = p.fresh }
sound_step s (Closed pass) a p = record { within = p.within; fresh = p.fresh }
