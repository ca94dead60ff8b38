-- What chunks, and values as handles give them, stand for.
use Rattle.std.specs.Prelude.{ℕ, if◌then◌else◌, bytes_eq, Option, Some, None, option_map, List}
use Rattle.json_decimal.specs.Handles.{json_of}
use Rattle.json_decimal.specs.JsonValue.{JsonValue, null}
use Rattle.json_decimal.specs.Reading.{value_in}
use Rattle.json_decimal.specs.declared.json_ref.JsonRef.{JsonRef}

abbrev pub or_null : Option JsonValue → JsonValue
or_null None = null
or_null (Some v) = v

-- the value that a JSON chunk reads as
abbrev pub json_in : List ℕ → JsonValue
json_in chunk = or_null (value_in chunk)

abbrev pub value_seen : Option JsonRef → Option JsonValue
value_seen value = option_map json_of value

-- the value for a name with one more member
abbrev pub with_last : List ℕ → Option JsonValue → List ℕ × JsonValue → Option JsonValue
with_last name value member = if bytes_eq member.0 name then Some member.1 else value
