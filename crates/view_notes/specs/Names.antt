-- Which contents the nodes name.
use Rattle.std.specs.Prelude.{All, ℕ, ◌≡◌, ◌<◌, ◌≤◌, false, List, [], ◌++◌, bytes_eq, length, map, slice_index_or, slice_range}
use Rattle.view_notes.specs.declared.span.Span.{Span}

-- the addresses, each once, and for each node the numbers of those that it names, which are their
-- places among the addresses
pub record Named : Type 0 where
  pub addresses : List (List ℕ)
  pub numbers : List (List ℕ)

abbrev pub address_at : List (List ℕ) → ℕ → List ℕ
address_at addresses k = slice_index_or addresses k []

-- the addresses that each node names
abbrev pub names_of : Named → List (List (List ℕ))
names_of n = map (map (address_at n.addresses)) n.numbers

-- ---- how they are kept

abbrev pub numbers_in : List ℕ → Span → List ℕ
numbers_in numbers s = slice_range numbers s.start s.end

-- the number is the first place at which its address stands
pub record IsNumber (addresses : List (List ℕ)) (k : ℕ) : Type 0 where
  pub within : k < length addresses
  pub first : (j : ℕ) → j < k → bytes_eq (address_at addresses k) (address_at addresses j) ≡ false

abbrev pub IsSpan : ℕ → Span → Type 0
IsSpan count s = (s.start ≤ s.end) × (s.end ≤ count)

pub record AreNames (addresses : List (List ℕ)) (numbers : List ℕ) (spans : List Span) : Type 0 where
  pub numbers_are : All (IsNumber addresses) numbers
  pub spans_are : All (IsSpan (length numbers)) spans

-- the numbers of all nodes are numbers of addresses
abbrev pub AreNumbered : Named → Type 0
AreNumbered n = All (λ ks. All (IsNumber n.addresses) ks) n.numbers

-- numbers were added, of these addresses
pub record AddsNumbers (old_addresses : List (List ℕ)) (old_numbers : List ℕ)
    (new_addresses : List (List ℕ)) (new_numbers : List ℕ) (xs : List (List ℕ)) : Type 0 where
  pub more_addresses : List (List ℕ)
  pub more : List ℕ
  pub addresses : new_addresses ≡ old_addresses ++ more_addresses
  pub numbers : new_numbers ≡ old_numbers ++ more
  pub are : All (IsNumber new_addresses) more
  pub names : map (address_at new_addresses) more ≡ xs
