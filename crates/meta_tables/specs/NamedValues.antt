-- What a table says of properties, by their names.
use Rattle.std.specs.Prelude.{◌≡◌, ℕ, List, Option}
use Rattle.json_decimal.specs.JsonValue.{last_of}
use Rattle.json_decimal.specs.declared.json_ref.JsonRef.{JsonRef}
use Rattle.subtree_binary.specs.Availability.{Members}
use Rattle.subtree_binary.specs.Seen.{value_seen}

-- at each name there is the value of the last member of that name
abbrev pub HasLasts : (List ℕ → Option JsonRef) → Members → Type 0
HasLasts value_at members = (name : List ℕ) → value_seen (value_at name) ≡ last_of name members
