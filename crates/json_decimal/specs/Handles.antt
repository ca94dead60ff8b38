-- What the handles on a JSON text stand for.
use Rattle.std.specs.Prelude.{ℕ, List, [], ◌∷◌, length, Option, Some, None}
use Rattle.json_decimal.specs.JsonValue.{JsonValue}
use Rattle.json_decimal.specs.Entries.{text_from, words_of, paired, values_on, value_on}
use Rattle.json_decimal.specs.declared.json_ref.JsonRef.{JsonRef}
use Rattle.json_decimal.specs.declared.json_string.JsonString.{JsonString}
use Rattle.json_decimal.specs.declared.json_string.JsonString.TheVariants as strings
use Rattle.json_decimal.specs.declared.json_items.JsonItems.{JsonItems}
use Rattle.json_decimal.specs.declared.json_members.JsonMembers.{JsonMembers}

-- the value
abbrev pub json_of : JsonRef → JsonValue
json_of r = value_on r.bytes.now r.entries.now

-- the text of a string
abbrev pub text_in : JsonString → List ℕ
text_in (strings.Plain text) = text.now
text_in (strings.Escaped string) = text_from string.bytes.now

-- a member's name and value
abbrev pub member_of : JsonString × JsonRef → List ℕ × JsonValue
member_of m = (text_in m.0, json_of m.1)

-- the values of a list that are left
abbrev pub items_left : JsonItems → List JsonValue
items_left i = values_on i.bytes.now i.entries.now 0 (length i.entries.now)

-- the members of an object that are left
abbrev pub members_left : JsonMembers → List (List ℕ × JsonValue)
members_left m = paired (items_left m.parts)

-- the first value as the name of a member, and the values behind it
abbrev pub split_name : List JsonValue → Option (List ℕ × List JsonValue)
split_name [] = None
split_name (n ∷ vs) = Some (words_of n, vs)
