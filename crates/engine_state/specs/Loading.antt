-- What is wanted, what is taken next, and when nothing is left to load.
use Rattle.std.specs.Prelude.{ℕ, ◌==◌, Bool, false, ◌&&◌, not, nat_lt, Option, Some, None, List, filter, length}
use Rattle.std.specs.List.{flat_map, list_any}
use Rattle.tile_types.specs.declared.key.Key.{Key}
use Rattle.tile_types.specs.declared.want.Want.{Want}
use Rattle.tile_types.specs.Keys.{same_key}
use Rattle.load_queue.specs.Best.{best}
use Rattle.load_queue.specs.Queues.{QueuedWant}
use Rattle.error_test.specs.Views.{ViewParts}
use Rattle.cut_core.specs.Cut.{is_empty}
use Rattle.cut_core.specs.Wants.{each_once, wanted}
use Rattle.engine_state.specs.declared.flight.Flight.{Flight}
use Rattle.engine_state.specs.declared.limits.TheConstants.{ATTEMPT_LIMIT}
use Rattle.engine_state.specs.State.{State}
use Rattle.engine_state.specs.Frames.{holdings, tree}

-- ---- what is wanted

unfoldable pub wanted_by : State → ViewParts → List Want
wanted_by s view = wanted view (holdings s) (tree s)

-- what the latest views want, each key once, at its first place: ranked by the least distance and
-- the greatest error
abbrev pub want : State → List Want
want s = each_once (flat_map (λ seen. wanted_by s seen.view) s.views)

-- ---- what may be taken

abbrev pub is_flying : State → Key → Bool
is_flying s key = list_any (λ flight. same_key flight.key key) s.flying

abbrev pub is_squeezed : State → Key → Bool
is_squeezed s key = list_any (same_key key) s.squeezed

-- how often the key was tried in vain
abbrev pub attempts_of : State → Key → ℕ
attempts_of s key = length (filter (same_key key) s.attempts)

-- the key isn't being fetched, there may be room for it, and it wasn't tried in vain too often
abbrev pub may_be_taken : State → Key → Bool
may_be_taken s key =
    not (is_flying s key)
    && (not (is_squeezed s key) && nat_lt (attempts_of s key) ATTEMPT_LIMIT)

abbrev pub takeable : State → List Want
takeable s = filter (λ w. may_be_taken s w.key) (want s)

-- the want as a queue of all that is wanted holds it: hidden where it may not be taken
abbrev pub queued : State → Want → QueuedWant
queued s w = record { want = w; hidden = not (may_be_taken s w.key) }

-- the first of the least rank is taken next
abbrev pub best_want : State → Option Want
best_want s = best s.order (takeable s)

abbrev pub is_key_of : Key → Option Want → Bool
is_key_of key None = false
is_key_of key (Some w) = same_key w.key key

-- nothing is left to load
abbrev pub is_settled : State → Bool
is_settled s = is_empty (takeable s) && is_empty s.flying

-- ---- what is being fetched

-- the key is being fetched by this pass
abbrev pub is_flight_of : ℕ → Key → Flight → Bool
is_flight_of pass key flight = same_key flight.key key && (flight.pass == pass)

abbrev pub flies : State → ℕ → Key → Bool
flies s pass key = list_any (is_flight_of pass key) s.flying
