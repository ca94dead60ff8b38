-- How a queue keeps its wants.
use Rattle.std.specs.Prelude.{◌≡◌, ◌<◌, ℕ, Bool, true, false, if◌then◌else◌, List, [], ◌∷◌}
use Rattle.std.specs.Prelude.{map}
use Rattle.std.specs.List.{AllByRecursion, IsDistinct}
use Rattle.tile_types.specs.declared.key.Key.{Key}
use Rattle.tile_types.specs.declared.order.Order.{Order}
use Rattle.tile_types.specs.declared.want.Want.{Want}
use Rattle.tile_types.specs.Keys.{same_key}
use Rattle.load_queue.specs.declared.entry.Change.{Change}
use Rattle.load_queue.specs.declared.entry.Change.TheVariants as change
use Rattle.load_queue.specs.declared.entry.Entry.{Entry}
use Rattle.load_queue.specs.declared.entry.State.{State}
use Rattle.load_queue.specs.declared.entry.State.TheVariants.{Shown, Hidden, Dropped}
use Rattle.load_queue.specs.declared.entry.TheConstants.{PASSED_OVER}
use Rattle.load_queue.specs.Best.{rank}
use Rattle.load_queue.specs.Queues.{Queue, QueuedWant, other_wants, with_hidden}

-- ---- one want

abbrev pub state_after : Change → State → State
state_after c Dropped = Dropped
state_after change.Drop Shown = Dropped
state_after change.Drop Hidden = Dropped
state_after change.Hide Shown = Hidden
state_after change.Hide Hidden = Hidden
state_after change.Show Shown = Shown
state_after change.Show Hidden = Shown

abbrev pub shown_entry : Want → Entry
shown_entry want = record { want = want; state = Shown }

abbrev pub has_key : Key → Entry → Bool
has_key key e = same_key key e.want.key

abbrev pub score_of : State → ℕ → ℕ
score_of Shown r = r
score_of Hidden r = PASSED_OVER
score_of Dropped r = PASSED_OVER

-- the rank where it is shown
abbrev pub score : Order → Entry → ℕ
score order e = score_of e.state (rank order e.want.facts)

abbrev pub is_shown_in : State → Bool
is_shown_in Shown = true
is_shown_in Hidden = false
is_shown_in Dropped = false

abbrev pub is_shown : Entry → Bool
is_shown e = is_shown_in e.state

-- its rank is less than that of what is passed over
abbrev pub IsWithin : Order → Entry → Type 0
IsWithin order e = rank order e.want.facts < PASSED_OVER

-- ---- all of them

abbrev pub changed_entry : Change → Key → Entry → Entry
changed_entry c key e =
    if has_key key e then record { want = e.want; state = state_after c e.state } else e

abbrev pub changed_entries : Change → Key → List Entry → List Entry
changed_entries c key es = map (changed_entry c key) es

-- each is found by its key
pub record AreKeyed (entries : List Entry) (keys : List Key) : Type 0 where
  pub keys_are : keys ≡ map (λ e. e.want.key) entries
  pub apart : IsDistinct same_key keys

-- what became of the want as the queue tells it
abbrev pub queued_before : Want → State → List QueuedWant → List QueuedWant
queued_before want Shown rest = record { want = want; hidden = false } ∷ rest
queued_before want Hidden rest = record { want = want; hidden = true } ∷ rest
queued_before want Dropped rest = rest

abbrev pub queued_wants : List Entry → List QueuedWant
queued_wants [] = []
queued_wants (e ∷ es) = queued_before e.want e.state (queued_wants es)

-- the queue ranks by its order, and each want has its score
pub record IsRanked (order ranked_by : Order) (entries : List Entry) (ranks : List ℕ) : Type 0 where
  pub by : ranked_by ≡ order
  pub within : AllByRecursion (IsWithin order) entries
  pub scores : ranks ≡ map (score order) entries

-- ---- changes

abbrev pub changed_wants : Change → Key → List QueuedWant → List QueuedWant
changed_wants change.Hide key list = map (with_hidden true key) list
changed_wants change.Show key list = map (with_hidden false key) list
changed_wants change.Drop key list = other_wants key list

abbrev pub changed_queue : Change → Key → Queue → Queue
changed_queue c key q = record { order = q.order; wants = changed_wants c key q.wants }
