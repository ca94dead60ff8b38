-- The room rule, over what is known of the residents: what goes to make room for a content. And the
-- room for documents.
use Rattle.std.specs.Prelude.{ℕ, ◌+◌, ◌-◌, Bool, ◌&&◌, not, nat_le, if◌then◌else◌, List, [], ◌∷◌, ◌++◌, filter, fold, length, reverse}
use Rattle.std.specs.List.{flat_map, list_any}
use Rattle.tile_cache.specs.Residents.{same_text}
use Rattle.tile_cache.specs.Room.{is_held}
use Rattle.error_test.specs.Views.{ViewParts}
use Rattle.cut_core.specs.Visits.{kept_addresses, unless_too_many}
use Rattle.doc_store.specs.declared.limits.TheConstants.{STORE_BYTES, STORE_DOCUMENTS}
use Rattle.doc_store.specs.Docs.{Loaded}
use Rattle.doc_store.specs.Store.{total_bytes}
use Rattle.engine_state.specs.declared.resident.Resident.{Resident}
use Rattle.engine_state.specs.State.{State}
use Rattle.engine_state.specs.Frames.{holdings, pinned, tree}

-- ---- what is in use

-- the addresses that a view keeps, in preorder
unfoldable pub kept_by : State → ViewParts → List (List ℕ)
kept_by s view = unless_too_many view (tree s) (kept_addresses view (holdings s) (tree s))

-- the addresses that the latest views keep
abbrev pub kept : State → List (List ℕ)
kept s = flat_map (λ seen. kept_by s seen.view) s.views

-- the latest views keep what is there
abbrev pub is_kept : State → List ℕ → Bool
is_kept s address = list_any (same_text address) (kept s)

-- what is there is a line of a held frame, or the latest views keep it
abbrev pub in_use : State → List ℕ → Bool
in_use s = is_held (pinned s.frames) (is_kept s)

-- ---- room for contents

-- how many bytes they have together
abbrev pub bytes_in : List Resident → ℕ
bytes_in [] = 0
bytes_in (r ∷ rs) = r.facts.length + bytes_in rs

-- the bytes of the residents that stay
abbrev pub bytes_held : (List ℕ → Bool) → List Resident → ℕ
bytes_held used residents = bytes_in (filter (λ r. used r.address) residents)

-- the first of these, until so many bytes are within the budget without them
abbrev pub until_within : ℕ → ℕ → List Resident → List (List ℕ)
until_within budget bytes [] = []
until_within budget bytes (r ∷ rs) =
    if nat_le bytes budget then []
    else r.address ∷ until_within budget (bytes - r.facts.length) rs

-- what goes for a content of so many bytes: the least recently used that aren't in use, until it
-- fits
abbrev pub evicted_by : (List ℕ → Bool) → ℕ → List Resident → ℕ → List (List ℕ)
evicted_by used budget residents size =
    until_within budget (bytes_in residents + size)
    (filter (λ r. not (used r.address)) (reverse residents))

-- the bytes in use, with so many more, are within the budget: else a content is squeezed
abbrev pub fits : State → ℕ → Bool
fits s size = nat_le (bytes_held (in_use s) s.residents + size) s.budget

abbrev pub evicted : State → ℕ → List (List ℕ)
evicted s size = evicted_by (in_use s) s.budget s.residents size

-- ---- the order of their use

-- the resident at the address goes to the front
abbrev pub moved_up : List Resident → List ℕ → List Resident
moved_up residents address =
    filter (λ r. same_text r.address address) residents
    ++ filter (λ r. not (same_text r.address address)) residents

-- each of them in turn
abbrev pub all_moved_up : List (List ℕ) → List Resident → List Resident
all_moved_up addresses residents = fold moved_up residents addresses

-- the residents at other addresses
abbrev pub without : List (List ℕ) → List Resident → List Resident
without addresses residents = filter (λ r. not (list_any (same_text r.address) addresses)) residents

-- ---- room for documents

-- the store takes one more document, of so many bytes
abbrev pub has_room : List Loaded → ℕ → Bool
has_room loaded bytes =
    nat_le (length loaded + 1) STORE_DOCUMENTS && nat_le (total_bytes loaded + bytes) STORE_BYTES
