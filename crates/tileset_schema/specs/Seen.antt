-- Values as handles and boxes give them.
use Rattle.std.specs.Prelude.{Option, Some, None, option_map}
use Rattle.std.specs.Global.{Box}
use Rattle.fixed_geometry.specs.Maps.{Map, identity}
use Rattle.json_decimal.specs.declared.json_ref.JsonRef.{JsonRef}
use Rattle.json_decimal.specs.Handles.{json_of}
use Rattle.json_decimal.specs.JsonValue.{JsonValue}
use Rattle.tileset_schema.specs.Implicit.{ImplicitParts}

abbrev pub value_seen : Option JsonRef → Option JsonValue
value_seen value = option_map json_of value

-- an implicit part in its box
abbrev pub part_seen : Option (Box ImplicitParts) → Option ImplicitParts
part_seen part = option_map (λ (p : Box ImplicitParts). p.value) part

-- the map of a transform, of which none stands for the identity
abbrev pub or_identity : Option Map → Map
or_identity None = identity
or_identity (Some map) = map
