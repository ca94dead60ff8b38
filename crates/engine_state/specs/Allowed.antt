-- Where an entry is allowed: a row for each.
use Rattle.std.specs.Prelude.{ℕ, ◌+◌, ◌==◌, Bool, true, ◌&&◌, ◌||◌, not, nat_lt, nat_le, if◌then◌else◌, is_some, List, [], ◌∷◌, length}
use Rattle.std.specs.Cmp.Lexicographic.{pointwise}
use Rattle.tile_types.specs.declared.key.Key.{Key}
use Rattle.tile_uri.specs.declared.address.TheConstants.{ADDRESS_LIMIT}
use Rattle.tile_uri.specs.Addresses.{is_address}
use Rattle.doc_store.specs.declared.limits.TheConstants.{DOCUMENT_LIMIT}
use Rattle.doc_store.specs.Docs.{is_content, tileset_in}
use Rattle.error_test.specs.Views.{ViewParts}
use Rattle.cut_core.specs.Visits.{content_key}
use Rattle.tile_cache.specs.Residents.{same_text}
use Rattle.frame_pins.specs.declared.why.Why.{Why}
use Rattle.frame_pins.specs.declared.why.Why.TheVariants.{FramesFull, TooLarge}
use Rattle.engine_state.specs.declared.entry.Entry.{Entry}
use Rattle.engine_state.specs.declared.entry.Entry.TheVariants.{Opened, Looked, LookRefused, Returned, Taken, DocumentArrived, ContentArrived, Squeezed, Absent, Failed, Starved, Retried, Closed}
use Rattle.engine_state.specs.declared.fault_count.FaultCount.{FaultCount}
use Rattle.engine_state.specs.declared.gone.Gone.{Gone}
use Rattle.engine_state.specs.declared.gone.Gone.TheVariants.{Missing, TooLong, StoreFull}
use Rattle.engine_state.specs.declared.limits.TheConstants.{FRAME_LIMIT}
use Rattle.engine_state.specs.State.{State}
use Rattle.engine_state.specs.Views.{is_latest}
use Rattle.engine_state.specs.Frames.{is_held, is_too_large}
use Rattle.engine_state.specs.Loading.{best_want, flies, is_key_of, is_settled}
use Rattle.engine_state.specs.Room.{evicted, fits, has_room}

-- an address within its limit, and bytes within theirs, which are a tileset there
abbrev pub is_opening : List ℕ → List ℕ → Bool
is_opening root bytes =
    is_address root
    && (nat_le (length root) ADDRESS_LIMIT
    && (nat_le (length bytes) DOCUMENT_LIMIT && is_some (tileset_in root bytes)))

abbrev pub is_open : State → Bool
is_open s = s.opened && not s.closed

abbrev pub may_hold_more : State → Bool
may_hold_more s = nat_lt (length s.frames) FRAME_LIMIT

-- a view that is asked for as settled is the viewer's latest
abbrev pub may_ask : State → ℕ → ViewParts → (settled : Bool) → Bool
may_ask s viewer view settled = not settled || is_latest s.views viewer view

abbrev pub may_refuse : State → ViewParts → Why → Bool
may_refuse s view FramesFull = length s.frames == FRAME_LIMIT
may_refuse s view TooLarge = may_hold_more s && is_too_large s view

-- the store is full for a document where it has no room for the longest
abbrev pub may_be_gone : State → Key → Gone → Bool
may_be_gone s key Missing = true
may_be_gone s key TooLong = true
may_be_gone s key StoreFull = not (is_content key) && not (has_room s.loaded DOCUMENT_LIMIT)

-- the last fault count of a pass, or 0 where it has none
abbrev pub last_count : List FaultCount → ℕ → ℕ
last_count [] pass = 0
last_count (f ∷ fs) pass = if f.pass == pass then f.count else last_count fs pass

abbrev pub allowed : State → Entry → Bool
allowed s (Opened root bytes budget order) =
    not s.opened && is_opening root bytes
allowed s (Looked pass id viewer view settled) =
    is_open s && (may_hold_more s && (not (is_too_large s view) && ((id == s.looks + 1)
    && (may_ask s viewer view settled && (not settled || is_settled s)))))
allowed s (LookRefused pass viewer view settled why) =
    is_open s && (may_refuse s view why && may_ask s viewer view settled)
allowed s (Returned pass id) =
    s.opened && is_held s.frames id
allowed s (Taken pass key) =
    is_open s && is_key_of key (best_want s)
allowed s (DocumentArrived pass key bytes) =
    s.opened && (not (is_content key) && (flies s pass key && has_room s.loaded (length bytes)))
allowed s (ContentArrived pass address size digest out) =
    s.opened && (flies s pass (content_key address)
    && (fits s size && pointwise same_text out (evicted s size)))
allowed s (Squeezed pass address size) =
    s.opened && (flies s pass (content_key address) && not (fits s size))
allowed s (Absent pass key why) =
    s.opened && (flies s pass key && may_be_gone s key why)
allowed s (Failed pass key count) =
    s.opened && (flies s pass key && nat_lt (last_count s.faults pass) count)
allowed s (Starved pass key) =
    s.opened && flies s pass key
allowed s (Retried pass) = is_open s
allowed s (Closed pass) = is_open s
