-- What an admission leaves.
use Rattle.std.proofs.Common.{ℕ, ◌+◌, ◌-◌, ◌^◌, ◌<◌, ◌≡◌, Bool, true, false, not, cond}
use Rattle.std.proofs.Common.{List, [], ◌∷◌, ◌++◌, filter, length, take, take_all, refl, sym}
use Rattle.std.proofs.Common.{ap, ◌∙◌}
use Rattle.std.proofs.Common.{arith, nat_lt, lt-ltb, zero, suc, reverse, replicate}
use Rattle.std.specs.List.{list_any, IsDistinct}
use Rattle.std.specs.Option.{option_map_or}
use Rattle.std.specs.Map.{keys_of, remove_entry}
use Rattle.lru.specs.LruCache.{LruCache, put_entries}
use Rattle.tile_cache.specs.declared.entry.Entry.{Entry}
use Rattle.tile_cache.specs.Pins.{times, SamePins}
use Rattle.tile_cache.specs.Residents.{bytes_in, has_address, same_text, without}
use Rattle.tile_cache.specs.Room.{evicted_by, is_held}
use Rattle.tile_cache.specs.Kept.{KeptEntry, pins_in, resident, residents_in, unpinned}
use Rattle.tile_cache.proofs.Texts.{or_left}
use Rattle.tile_cache.proofs.Budgets.{any-reverse, none_absent, none_held}
use Rattle.tile_cache.proofs.Entries.{not_kept, residents-filter}
use Rattle.tile_cache.proofs.Pinning.{IsCounted, counted_all, mine, pins-cons}
use Rattle.tile_cache.proofs.Removing.{is_left}

-- the new one comes first, and nothing is pushed out by number
pub put_first : (cache : LruCache (List ℕ) Entry) (a content : List ℕ)
    → cache.cap ≡ 2 ^ 64 - 1 → length cache.entries < 2 ^ 63
    → has_address (residents_in cache.entries) a ≡ false
    → put_entries same_text cache a (unpinned content) ≡ (a, unpinned content) ∷ cache.entries
put_first cache a content cap few absent =
    ap (λ o. option_map_or
    (λ e. (e.0, unpinned content) ∷ remove_entry (same_text a) cache.entries) o
    ((a, unpinned content) ∷ take (cache.cap - 1) cache.entries))
    (not_kept cache.entries a absent)
    ∙ ap (λ es. (a, unpinned content) ∷ es)
    (take_all (cache.cap - 1) cache.entries (omega arith))

-- it isn't among what goes
pub absent_stays : (es : List KeptEntry) (held : List ℕ → Bool) (budget size : ℕ) (a : List ℕ)
    → has_address (residents_in es) a ≡ false
    → list_any (same_text a) (evicted_by held budget (residents_in es) size) ≡ false
absent_stays es held budget size a h =
    none_absent (λ r. not (held r.address)) a budget (bytes_in (residents_in es) + size)
    (reverse (residents_in es)) (any-reverse (residents_in es) a ∙ h)

pub residents_then : (es : List KeptEntry) (a content : List ℕ) (out : List (List ℕ))
    → list_any (same_text a) out ≡ false
    → residents_in (filter (is_left out) ((a, unpinned content) ∷ es))
    ≡ resident a content ∷ without out (residents_in es)
residents_then es a content out h =
    ap (λ t. residents_in (cond (not t) ((a, unpinned content) ∷ filter (is_left out) es)
    (filter (is_left out) es))) h
    ∙ ap (λ rs. resident a content ∷ rs)
    (residents-filter (λ x. not (list_any (same_text x) out)) es)

-- what is pinned stays, so that no pin goes
pins_left : (pins out : List (List ℕ)) (keeps : List ℕ → Bool)
    → ((a : List ℕ) → is_held pins keeps a ≡ true → list_any (same_text a) out ≡ false)
    → (es : List KeptEntry) → IsCounted pins es → (b : List ℕ)
    → times b (pins_in (filter (is_left out) es)) ≡ times b (pins_in es)
pins_left pins out keeps stays [] h b = refl
pins_left pins out keeps stays (e ∷ es) h b =
    by (list_any (same_text e.0) out) refl (pins_left pins out keeps stays es h.1 b)
  where
    left : List KeptEntry
    left = filter (is_left out) es

    none : (n : ℕ) → e.1.pins ≡ n → list_any (same_text e.0) out ≡ true → e.1.pins ≡ 0
    none zero k t = k
    none (suc n) k t =
        let own = h.0 in
        let pinned : nat_lt 0 (times e.0 pins) ≡ true = lt-ltb 0 (times e.0 pins) (omega arith) in
        let stay = stays e.0 (or_left (nat_lt 0 (times e.0 pins))
        (keeps e.0) pinned) in
        cc

    by : (t : Bool) → list_any (same_text e.0) out ≡ t
        → times b (pins_in left) ≡ times b (pins_in es)
        → times b (pins_in (filter (is_left out) (e ∷ es))) ≡ times b (pins_in (e ∷ es))
    by false t rest =
        ap (λ u. times b (pins_in (cond (not u) (e ∷ left) left))) t
        ∙ pins-cons b e left ∙ ap (λ n. mine b e + n) rest ∙ sym (pins-cons b e es)
    by true t rest =
        ap (λ u. times b (pins_in (cond (not u) (e ∷ left) left))) t
        ∙ rest
        ∙ ap (λ n. times b (replicate n e.0 ++ pins_in es)) (sym (none e.1.pins refl t))

pub pins_then : (es : List KeptEntry) (keeps : List ℕ → Bool) (budget size : ℕ)
    (a content : List ℕ) → IsDistinct same_text (keys_of es)
    → list_any (same_text a)
    (evicted_by (is_held (pins_in es) keeps) budget (residents_in es) size) ≡ false
    → SamePins (pins_in es) (pins_in (filter
    (is_left (evicted_by (is_held (pins_in es) keeps) budget (residents_in es) size))
    ((a, unpinned content) ∷ es)))
pins_then es keeps budget size a content d h = record {
  same = λ b.
      ap (λ t. times b (pins_in (cond (not t)
      ((a, unpinned content) ∷ filter (is_left out) es) (filter (is_left out) es)))) h
      ∙ pins_left (pins_in es) out keeps
      (λ x held. none_held (is_held (pins_in es) keeps) x budget (bytes_in (residents_in es) + size)
      (reverse (residents_in es)) held)
      es (counted_all es d) b;
}
  where
    out : List (List ℕ)
    out = evicted_by (is_held (pins_in es) keeps) budget (residents_in es) size
