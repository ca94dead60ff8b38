-- What references to values stand for.
use Rattle.std.specs.Prelude.{ℕ, List, Option, option_map, map}
use Rattle.std.specs.Borrow.{Bor}
use Rattle.json_decimal.specs.JsonValue.{JsonValue}
use Rattle.json_decimal.specs.View.{value_of}
use Rattle.json_decimal.specs.declared.json.Json.{Json}
use Rattle.meta_schema.specs.Members.{Members}

abbrev pub value_seen : Option (Bor Json) → Option JsonValue
value_seen value = option_map (λ v. value_of v.now) value

abbrev pub member_seen : Bor (List ℕ) × Bor Json → List ℕ × JsonValue
member_seen m = (m.0.now, value_of m.1.now)

abbrev pub members_seen : List (Bor (List ℕ) × Bor Json) → Members
members_seen members = map member_seen members
