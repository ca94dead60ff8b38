-- The room that a cache makes for a content is what the state says.
use Rattle.std.specs.Prelude.{if◌then◌else◌}
use Rattle.std.proofs.Common.{ℕ, ◌+◌, ◌-◌, ◌≤◌, ◌≡◌, inl, inr, Bool, true, false, not, ◌||◌, cond, List, [], ◌∷◌, ◌++◌, filter, length, map, nat_le, nat_lt, reverse, refl, sym, ◌∙◌, ap, arith, le-leb}
use Rattle.std.specs.List.{flat_map, list_any}
use Rattle.std.proofs.lemmas.List.{append-nil}
use Rattle.std.proofs.lemmas.List.Folds.{flat_map-map}
use Rattle.tile_cache.specs.Pins.{times}
use Rattle.tile_cache.specs.Residents.{Resident, bytes_in, has_address, same_text}
use Rattle.tile_cache.specs.Room.{bytes_held, evicted_by, is_held, until_within}
use Rattle.tile_cache.proofs.Texts.{or_left, or_right, text_refl}
use Rattle.tile_cache.proofs.Budgets.{any-reverse, bytes_parts}
use Rattle.view_notes.specs.Follows.{Noted}
use Rattle.view_notes.specs.Keeping.{any_keeps}
use Rattle.view_notes.specs.Views.{kept as kept_of}
use Rattle.view_notes.proofs.KeptByNotes.{views_keep}
use Rattle.engine_state.specs.declared.entry.Entry.{Entry}
use Rattle.engine_state.specs.State.{State}
use Rattle.engine_state.specs.Frames.{holdings, pinned, tree}
use Rattle.engine_state.specs.Frames as frames
use Rattle.engine_state.specs.Room.{evicted, fits, in_use, is_kept, kept_by}
use Rattle.engine_state.specs.Room as room
use Rattle.engine_state.specs.Journal.{legal, replay}
use Rattle.engine_state.proofs.Rooms.{address_known, evicted_known, held_known}
use Rattle.engine_core.specs.declared.parts.Parts.{Parts}
use Rattle.engine_core.specs.Mirrors.{KnowsRoom, Lives, state_of}

-- ---- tests of what stays

-- the tests answer the same at the residents' addresses
abbrev pub AgreeOn : List Resident → (p q : List ℕ → Bool) → Type 0
AgreeOn rs p q = (a : List ℕ) → has_address rs a ≡ true → p a ≡ q a

filter_alike : (p q : List ℕ → Bool) (rs : List Resident) → AgreeOn rs p q
    → filter (λ r. p r.address) rs ≡ filter (λ r. q r.address) rs
filter_alike p q [] same = refl
filter_alike p q (r ∷ rs) same =
    let others = filter (λ x. q x.address) rs in
    ap (λ xs. cond (p r.address) (r ∷ xs) xs)
    (filter_alike p q rs (λ a h. same a (or_right (same_text r.address a) _ h)))
    ∙ ap (λ b. cond b (r ∷ others) others)
    (same r.address (or_left (same_text r.address r.address) _ (text_refl r.address)))

-- two tests give the same room for so many bytes
pub record GiveRoom (p q : List ℕ → Bool) (budget : ℕ) (rs : List Resident) (size : ℕ) : Type 0
  where
    pub fit : nat_le (bytes_held p rs + size) budget ≡ nat_le (bytes_held q rs + size) budget
    pub go : evicted_by p budget rs size ≡ evicted_by q budget rs size

-- those that agree on the residents do
pub agreeing : (p q : List ℕ → Bool) (budget : ℕ) (rs : List Resident) (size : ℕ)
    → AgreeOn rs p q → GiveRoom p q budget rs size
agreeing p q budget rs size same = record {
  fit = ap (λ xs. nat_le (bytes_in xs + size) budget) (filter_alike p q rs same);
  go = ap (until_within budget (bytes_in rs + size))
      (filter_alike (λ a. not (p a)) (λ a. not (q a)) (reverse rs)
      (λ a h. ap not (same a (sym (any-reverse rs a) ∙ h))));
}

none_go : (budget bytes : ℕ) (rs : List Resident) → bytes ≤ budget → until_within budget bytes rs ≡ []
none_go budget bytes [] h = refl
none_go budget bytes (r ∷ rs) h =
    ap (λ b. if b then [] else r.address ∷ until_within budget (bytes - length r.content) rs)
    (le-leb bytes budget h)

held_fit : (p : List ℕ → Bool) (budget : ℕ) (rs : List Resident) (size : ℕ)
    → bytes_in rs + size ≤ budget → nat_le (bytes_held p rs + size) budget ≡ true
held_fit p budget rs size h =
    let parts = bytes_parts (λ r. p r.address) rs in
    le-leb (bytes_held p rs + size) budget (omega (arith, h, parts))

-- any two do where nothing has to go
pub with_room : (p q : List ℕ → Bool) (budget : ℕ) (rs : List Resident) (size : ℕ)
    → bytes_in rs + size ≤ budget → GiveRoom p q budget rs size
with_room p q budget rs size h = record {
  fit = held_fit p budget rs size h ∙ sym (held_fit q budget rs size h);
  go = none_go budget (bytes_in rs + size) _ h ∙ sym (none_go budget (bytes_in rs + size) _ h);
}

-- ---- what is in use

-- a resident of a legal journal's state isn't absent there
abbrev pub ResidentsArePresent : Type 0
ResidentsArePresent = (before rest : List Entry) → legal (before ++ rest) ≡ true
    → (a : List ℕ) → frames.has_address (replay before).residents a ≡ true
    → (holdings (replay before)).absent a ≡ false

views_kept : (s : State) (a : List ℕ)
    → list_any (same_text a)
    (flat_map (λ view. kept_of view (holdings s) (tree s)) (map (λ seen. seen.view) s.views))
    ≡ is_kept s a
unfolding kept_by
views_kept s a =
    ap (list_any (same_text a))
    (flat_map-map (λ view. kept_of view (holdings s) (tree s)) (λ seen. seen.view) s.views)

-- where the views are noted, a cache that asks their notes keeps what is in use
noted_agree : (p : Parts) → ResidentsArePresent → Lives p → p.noted ≡ true
    → AgreeOn p.cache.residents (is_held p.cache.pins (any_keeps p.notes.items))
    (in_use (state_of p))
noted_agree p law l h a there =
    let s = state_of p in
    let m = l.mirrors in
    let resident : frames.has_address s.residents a ≡ true =
    ap (λ rs. frames.has_address rs a) m.shows.residents_is
    ∙ address_known p.cache.residents a ∙ there in
    let present : (holdings s).absent a ≡ false =
    law p.entries.items [] (ap legal (append-nil p.entries.items) ∙ l.is_legal) a resident in
    ap (λ n. nat_lt 0 n || any_keeps p.notes.items a) (m.shows.pins.same a)
    ∙ ap (λ b. nat_lt 0 (times a (pinned s.frames)) || b)
    (views_keep (holdings s) a present (tree s) p.notes.items (map (λ seen. seen.view) s.views)
    (m.noted h) ∙ views_kept s a)

-- ---- room for a content

-- what a cache that asks these notes answers of so many bytes is what the state says
pub record MakesRoomAs (p : Parts) (notes : List Noted) (size : ℕ) : Type 0 where
  pub fit : nat_le (bytes_held (is_held p.cache.pins (any_keeps notes)) p.cache.residents + size)
      p.cache.budget ≡ fits (state_of p) size
  pub go : evicted_by (is_held p.cache.pins (any_keeps notes)) p.cache.budget p.cache.residents size
      ≡ evicted (state_of p) size

pub makes_room : (p : Parts) (size : ℕ) → ResidentsArePresent → Lives p → KnowsRoom size p
    → MakesRoomAs p p.notes.items size
makes_room p size law l k =
    let s = state_of p in
    let m = l.mirrors.shows in
    let rs = p.cache.residents in
    let used : List ℕ → Bool = is_held p.cache.pins (any_keeps p.notes.items) in
    let both : GiveRoom used (in_use s) p.cache.budget rs size = by k in
    record {
      fit = both.fit
          ∙ ap (nat_le (bytes_held (in_use s) rs + size)) m.budget_is
          ∙ ap (λ n. nat_le (n + size) s.budget) (sym (held_known (in_use s) rs)
          ∙ ap (room.bytes_held (in_use s)) (sym m.residents_is));
      go = both.go
          ∙ ap (λ budget. evicted_by (in_use s) budget rs size) m.budget_is
          ∙ sym (evicted_known (in_use s) s.budget rs size)
          ∙ ap (λ xs. room.evicted_by (in_use s) s.budget xs size) (sym m.residents_is);
    }
  where
    by : KnowsRoom size p
        → GiveRoom (is_held p.cache.pins (any_keeps p.notes.items)) (in_use (state_of p))
        p.cache.budget p.cache.residents size
    by (inl h) = agreeing _ _ p.cache.budget p.cache.residents size (noted_agree p law l h)
    by (inr h) = with_room _ _ p.cache.budget p.cache.residents size h
