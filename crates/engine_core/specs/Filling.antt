-- What a queue hides.
use Rattle.std.specs.Prelude.{Bool, ◌||◌, not, nat_lt, List, filter, length}
use Rattle.tile_types.specs.declared.key.Key.{Key}
use Rattle.tile_types.specs.Keys.{same_key}
use Rattle.load_queue.specs.Queues.{QueuedWant}
use Rattle.engine_state.specs.declared.limits.TheConstants.{ATTEMPT_LIMIT}

-- the want is hidden where it was, and where the test holds of its key
abbrev pub hidden_where : (Key → Bool) → QueuedWant → QueuedWant
hidden_where test w = record { want = w.want; hidden = w.hidden || test w.want.key }

-- the key was tried in vain as often as it may be
abbrev pub is_given_up : List Key → Key → Bool
is_given_up attempts key = not (nat_lt (length (filter (same_key key) attempts)) ATTEMPT_LIMIT)
