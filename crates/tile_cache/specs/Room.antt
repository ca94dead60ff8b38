-- The room rule: what goes to make room for a content.
use Rattle.std.specs.Prelude.{ℕ, ◌+◌, ◌-◌, ◌≡◌, ◌≤◌, ◌<◌, Bool, true, not, ◌||◌, nat_lt, nat_le}
use Rattle.std.specs.Prelude.{if◌then◌else◌, List, [], ◌∷◌, length, filter, reverse}
use Rattle.tile_cache.specs.declared.error.AdmitError.{AdmitError}
use Rattle.tile_cache.specs.declared.error.AdmitError.TheVariants.{Squeezed, OutOfMemory}
use Rattle.tile_cache.specs.Pins.{times}
use Rattle.tile_cache.specs.Residents.{Resident, bytes_in, without}

-- the address is pinned, or is to be kept: what is there stays
abbrev pub is_held : List (List ℕ) → (List ℕ → Bool) → List ℕ → Bool
is_held pins keeps address = nat_lt 0 (times address pins) || keeps address

-- the bytes of the residents that stay
abbrev pub bytes_held : (List ℕ → Bool) → List Resident → ℕ
bytes_held held residents = bytes_in (filter (λ r. held r.address) residents)

-- the first of these, until so many bytes are within the budget without them
abbrev pub until_within : ℕ → ℕ → List Resident → List (List ℕ)
until_within budget bytes [] = []
until_within budget bytes (r ∷ rs) =
    if nat_le bytes budget then []
    else r.address ∷ until_within budget (bytes - length r.content) rs

-- what goes for a content of so many bytes: the least recently used that aren't held, until it fits
abbrev pub evicted_by : (List ℕ → Bool) → ℕ → List Resident → ℕ → List (List ℕ)
evicted_by held budget residents size =
    until_within budget (bytes_in residents + size)
    (filter (λ r. not (held r.address)) (reverse residents))

-- so many bytes are free once these have gone, as they do for a content of so many bytes, where
-- there was memory for all of them
pub record MakesRoom (held : List ℕ → Bool) (budget : ℕ) (residents : List Resident)
    (size free : ℕ) (goes : List (List ℕ)) (is_whole : Bool) : Type 0 where
  pub enough : size ≤ free → bytes_held held residents + size ≤ budget
  pub short : free < size → free + bytes_held held residents ≡ budget
  pub evicted : is_whole ≡ true → goes ≡ evicted_by held budget residents size
  pub left : is_whole ≡ true → free + bytes_in (without goes residents) ≡ budget

-- why a content of so many bytes isn't admitted, where so many bytes are held: it is squeezed
-- exactly where they pass the budget together
abbrev pub RefusesAdmission : (held size budget : ℕ) → AdmitError → Type 0
RefusesAdmission held size budget (Squeezed bytes length) =
    (bytes ≡ held) × (length ≡ size) × (budget < held + size)
RefusesAdmission held size budget OutOfMemory = held + size ≤ budget
