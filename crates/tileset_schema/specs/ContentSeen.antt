-- The values of the contents of a tile, as handles give them.
use Rattle.std.specs.Prelude.{List, [], ◌∷◌}
use Rattle.json_decimal.specs.Handles.{items_left, json_of}
use Rattle.json_decimal.specs.JsonValue.{JsonValue}
use Rattle.tileset_schema.specs.declared.content_values.ContentValues.{ContentValues}
use Rattle.tileset_schema.specs.declared.content_values.ContentValues.TheVariants.{Absent, One, Listed}

abbrev pub values_in : ContentValues → List JsonValue
values_in Absent = []
values_in (One value) = json_of value ∷ []
values_in (Listed items) = items_left items
