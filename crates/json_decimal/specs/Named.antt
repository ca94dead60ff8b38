-- The values of members by their names.
use Rattle.std.specs.Prelude.{ℕ, List, [], ◌∷◌, map, if◌then◌else◌, Option, Some, option_map, bytes_eq}
use Rattle.std.specs.Borrow.{Bor}
use Rattle.json_decimal.specs.Handles.{json_of}
use Rattle.json_decimal.specs.JsonValue.{JsonValue, later, last_of}
use Rattle.json_decimal.specs.declared.json_ref.JsonRef.{JsonRef}

-- the names that references show
abbrev pub plain : List (Bor (List ℕ)) → List (List ℕ)
plain names = map (λ (name : Bor (List ℕ)). name.now) names

-- the values that handles show
abbrev pub seen : List (Option JsonRef) → List (Option JsonValue)
seen values = map (option_map json_of) values

-- the values with that of one member more, at each place whose name is its own
abbrev pub with_member : List (List ℕ) → List (Option JsonValue) → List ℕ × JsonValue
    → List (Option JsonValue)
with_member [] values member = values
with_member (name ∷ names) [] member = []
with_member (name ∷ names) (value ∷ values) member =
    (if bytes_eq member.0 name then Some member.1 else value) ∷ with_member names values member

-- at the place of each name the value of the last member of that name, and what stood there where
-- no member has it
abbrev pub lasts : List (List ℕ) → List (Option JsonValue) → List (List ℕ × JsonValue)
    → List (Option JsonValue)
lasts [] values members = values
lasts (name ∷ names) [] members = []
lasts (name ∷ names) (value ∷ values) members =
    later (last_of name members) value ∷ lasts names values members
