-- The contents that are resident, the most recently used first.
use Rattle.std.specs.Prelude.{ℕ, ◌+◌, Bool, bytes_eq, not, Option, option_map, List, [], ◌∷◌, ◌++◌}
use Rattle.std.specs.Prelude.{length, filter, find}
use Rattle.std.specs.List.{list_any}

abbrev pub same_text : List ℕ → List ℕ → Bool
same_text = bytes_eq

-- a content at its address
pub record Resident : Type 0 where
  pub address : List ℕ
  pub content : List ℕ

-- how many bytes they have together
abbrev pub bytes_in : List Resident → ℕ
bytes_in [] = 0
bytes_in (r ∷ rs) = length r.content + bytes_in rs

abbrev pub has_address : List Resident → List ℕ → Bool
has_address residents address = list_any (λ r. same_text r.address address) residents

-- the content of the resident at an address
abbrev pub content_at : List Resident → List ℕ → Option (List ℕ)
content_at residents address =
    option_map (λ r. r.content) (find (λ r. same_text r.address address) residents)

-- the resident at the address goes to the front
abbrev pub moved_up : List Resident → List ℕ → List Resident
moved_up residents address =
    filter (λ r. same_text r.address address) residents
    ++ filter (λ r. not (same_text r.address address)) residents

-- the residents at other addresses
abbrev pub without : List (List ℕ) → List Resident → List Resident
without addresses = filter (λ r. not (list_any (same_text r.address) addresses))
