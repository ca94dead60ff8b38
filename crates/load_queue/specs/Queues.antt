-- What a queue of wants holds.
use Rattle.std.specs.Prelude.{Bool, false, not, if◌then◌else◌, List, filter, map}
use Rattle.tile_types.specs.declared.key.Key.{Key}
use Rattle.tile_types.specs.declared.order.Order.{Order}
use Rattle.tile_types.specs.declared.want.Want.{Want}
use Rattle.tile_types.specs.Keys.{same_key}

-- a want, and whether it is hidden
pub record QueuedWant : Type 0 where
  pub want : Want
  pub hidden : Bool

-- the order by which the wants are ranked, and the wants in the order of the list that was set
pub record Queue : Type 0 where
  pub order : Order
  pub wants : List QueuedWant

-- a want as it is set
abbrev pub fresh_want : Want → QueuedWant
fresh_want want = record { want = want; hidden = false }

-- the wants that aren't hidden
abbrev pub shown_wants : List QueuedWant → List Want
shown_wants ws = map (λ w. w.want) (filter (λ w. not w.hidden) ws)

-- hidden or not, where it is the want of the key
abbrev pub with_hidden : Bool → Key → QueuedWant → QueuedWant
with_hidden hidden key w =
    if same_key key w.want.key then record { want = w.want; hidden = hidden } else w

-- the wants of other keys
abbrev pub other_wants : Key → List QueuedWant → List QueuedWant
other_wants key ws = filter (λ w. not (same_key key w.want.key)) ws
