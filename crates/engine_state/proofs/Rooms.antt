-- The room rule over what is known of residents is that of the cache, and the room for documents is
-- that of the store.
use Rattle.std.specs.Prelude.{if◌then◌else◌, ◌↔◌}
use Rattle.std.proofs.Common.{ℕ, ◌+◌, ◌-◌, ◌<◌, ◌≡◌, ◌⊎◌, inl, inr, Bool, true, false, not, ◌&&◌, ◌||◌, cond, Some, option_map, List, [], ◌∷◌, ◌++◌, map, filter, find, length, reverse, nat_le, refl, sym, ◌∙◌, ap, leb-false}
use Rattle.std.specs.List.{list_any}
use Rattle.std.proofs.lemmas.Bool.{lt-leb}
use Rattle.std.proofs.lemmas.List.{map-append, reverse-append}
use Rattle.tile_cache.specs.Residents as cache
use Rattle.tile_cache.specs.Residents.{same_text}
use Rattle.tile_cache.specs.Room as cache_room
use Rattle.content_digest.specs.Facts.{facts_of}
use Rattle.doc_store.specs.declared.limits.TheConstants.{STORE_BYTES, STORE_DOCUMENTS}
use Rattle.doc_store.specs.Store.{IsFull, Stored, total_bytes}
use Rattle.cut_core.proofs.Bools.{and_false}
use Rattle.engine_state.specs.declared.resident.Resident.{Resident}
use Rattle.engine_state.specs.Frames.{has_address}
use Rattle.engine_state.specs.Room.{bytes_held, bytes_in, evicted_by, has_room, moved_up, until_within, without}
use Rattle.engine_state.specs.Laws.{known}

abbrev all_known : List cache.Resident → List Resident
all_known rs = map known rs

-- a test of addresses passes the same
filter_known : (p : List ℕ → Bool) (rs : List cache.Resident)
    → filter (λ r. p r.address) (all_known rs) ≡ all_known (filter (λ r. p r.address) rs)
filter_known p [] = refl
filter_known p (r ∷ rs) =
    elim (p r.address) as (λ b.
    cond b (known r ∷ filter (λ x. p x.address) (all_known rs))
    (filter (λ x. p x.address) (all_known rs))
    ≡ all_known (cond b (r ∷ filter (λ x. p x.address) rs) (filter (λ x. p x.address) rs))) [
      | true ↦ ap (λ xs. known r ∷ xs) (filter_known p rs)
      | false ↦ filter_known p rs
    ]

reverse_known : (rs : List cache.Resident) → reverse (all_known rs) ≡ all_known (reverse rs)
reverse_known [] = refl
reverse_known (r ∷ rs) =
    reverse-append (known r ∷ []) (all_known rs)
    ∙ ap (λ xs. xs ++ known r ∷ []) (reverse_known rs)
    ∙ sym (map-append known (reverse rs) (r ∷ []))
    ∙ ap all_known (sym (reverse-append (r ∷ []) rs))

pub bytes_known : (rs : List cache.Resident) → bytes_in (all_known rs) ≡ cache.bytes_in rs
bytes_known [] = refl
bytes_known (r ∷ rs) = ap (λ n. length r.content + n) (bytes_known rs)

pub held_known : (used : List ℕ → Bool) (rs : List cache.Resident)
    → bytes_held used (all_known rs) ≡ cache_room.bytes_held used rs
held_known used rs =
    ap bytes_in (filter_known used rs) ∙ bytes_known (filter (λ r. used r.address) rs)

until_known : (budget bytes : ℕ) (rs : List cache.Resident)
    → until_within budget bytes (all_known rs) ≡ cache_room.until_within budget bytes rs
until_known budget bytes [] = refl
until_known budget bytes (r ∷ rs) =
    ap (λ xs. if nat_le bytes budget then [] else r.address ∷ xs)
    (until_known budget (bytes - length r.content) rs)

pub evicted_known : (used : List ℕ → Bool) (budget : ℕ) (rs : List cache.Resident) (size : ℕ)
    → evicted_by used budget (all_known rs) size ≡ cache_room.evicted_by used budget rs size
evicted_known used budget rs size =
    let free : Resident → Bool = λ r. not (used r.address) in
    ap (λ n. until_within budget (n + size)
    (filter free (reverse (all_known rs)))) (bytes_known rs)
    ∙ ap (until_within budget (cache.bytes_in rs + size))
    (ap (filter free) (reverse_known rs)
    ∙ filter_known (λ a. not (used a)) (reverse rs))
    ∙ until_known budget (cache.bytes_in rs + size)
    (filter (λ r. not (used r.address)) (reverse rs))

pub moved_known : (rs : List cache.Resident) (a : List ℕ)
    → moved_up (all_known rs) a ≡ all_known (cache.moved_up rs a)
moved_known rs a =
    ap (λ xs. xs ++ filter (λ r. not (same_text r.address a)) (all_known rs))
    (filter_known (λ x. same_text x a) rs)
    ∙ ap (λ xs. all_known (filter (λ r. same_text r.address a) rs) ++ xs)
    (filter_known (λ x. not (same_text x a)) rs)
    ∙ sym (map-append known (filter (λ r. same_text r.address a) rs)
    (filter (λ r. not (same_text r.address a)) rs))

pub without_known : (out : List (List ℕ)) (rs : List cache.Resident)
    → without out (all_known rs) ≡ all_known (cache.without out rs)
without_known out rs = filter_known (λ a. not (list_any (same_text a) out)) rs

pub address_known : (rs : List cache.Resident) (a : List ℕ)
    → has_address (all_known rs) a ≡ cache.has_address rs a
address_known [] a = refl
address_known (r ∷ rs) a = ap (λ b. same_text r.address a || b) (address_known rs a)

pub found_known : (rs : List cache.Resident) (a : List ℕ)
    → option_map (λ r. r.facts) (find (λ r. same_text r.address a) (all_known rs))
    ≡ option_map facts_of (cache.content_at rs a)
found_known [] a = refl
found_known (r ∷ rs) a =
    elim (same_text r.address a) as (λ b.
    option_map (λ x. x.facts)
    (cond b (Some (known r)) (find (λ x. same_text x.address a) (all_known rs)))
    ≡ option_map facts_of (option_map (λ x. x.content)
    (cond b (Some r) (find (λ x. same_text x.address a) rs)))) [
      | true ↦ refl
      | false ↦ found_known rs a
    ]

-- ---- the store

full_by : (n documents m bytes : ℕ)
    → ((nat_le n documents && nat_le m bytes) ≡ false) ↔ ((documents < n) ⊎ (bytes < m))
full_by n documents m bytes =
    (λ e. passes (nat_le n documents) (nat_le m bytes) refl refl e, fits_not)
  where
    passes : (d b : Bool) → nat_le n documents ≡ d → nat_le m bytes ≡ b → (d && b) ≡ false
        → (documents < n) ⊎ (bytes < m)
    passes true true d b e = cc
    passes true false d b e = inr (leb-false m bytes b)
    passes false c d b e = inl (leb-false n documents d)

    fits_not : (documents < n) ⊎ (bytes < m) → (nat_le n documents && nat_le m bytes) ≡ false
    fits_not (inl h) = ap (λ b. b && nat_le m bytes) (lt-leb n documents h)
    fits_not (inr h) = ap (λ b. nat_le n documents && b) (lt-leb m bytes h)
        ∙ and_false (nat_le n documents)

pub room_full : (store : Stored) (more : ℕ)
    → (has_room store.loaded more ≡ false) ↔ IsFull store more
room_full store more =
    full_by (length store.loaded + 1) STORE_DOCUMENTS (total_bytes store.loaded + more) STORE_BYTES
