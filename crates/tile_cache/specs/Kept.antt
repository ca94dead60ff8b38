-- How a cache keeps its residents and their pins.
use Rattle.std.specs.Prelude.{ℕ, ◌+◌, ◌-◌, ◌^◌, ◌≡◌, ◌<◌, List, map, replicate}
use Rattle.std.specs.List.{flat_map}
use Rattle.lru.specs.LruCache.{LruCache}
use Rattle.tile_cache.specs.declared.entry.Entry.{Entry}
use Rattle.tile_cache.specs.Residents.{Resident, bytes_in}

-- residents, the most recently used first; an address for each pin, in whatever order; and how many
-- bytes the residents may have together
pub record CacheState : Type 0 where
  pub residents : List Resident
  pub pins : List (List ℕ)
  pub budget : ℕ

-- an address, and what is kept there
abbrev pub KeptEntry : Type 0
KeptEntry = List ℕ × Entry

-- a content that isn't pinned
abbrev pub unpinned : List ℕ → Entry
unpinned content = record { content = content; pins = 0 }

abbrev pub resident : List ℕ → List ℕ → Resident
resident address content = record { address = address; content = content }

abbrev pub resident_of : KeptEntry → Resident
resident_of entry = resident entry.0 entry.1.content

abbrev pub residents_in : List KeptEntry → List Resident
residents_in = map resident_of

abbrev pub pins_of : KeptEntry → List (List ℕ)
pins_of entry = replicate entry.1.pins entry.0

abbrev pub pins_in : List KeptEntry → List (List ℕ)
pins_in = flat_map pins_of

-- nothing is pushed out by number, and what isn't free of the budget is what the residents have
pub record IsKept (cache : LruCache (List ℕ) Entry) (budget free : ℕ) : Type 0 where
  pub unbounded : cache.cap ≡ 2 ^ 64 - 1
  pub within : free + bytes_in (residents_in cache.entries) ≡ budget
  pub fits : budget < 2 ^ 64
