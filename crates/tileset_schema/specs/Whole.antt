-- What contracts see of a document that was read.
use Rattle.std.specs.Prelude.{Option, List}
use Rattle.json_decimal.specs.JsonValue.{JsonValue}
use Rattle.tileset_schema.specs.Preorder.{Row}

-- its tiles in preorder, and the metadata schema beside them
pub record WholeDocument : Type 0 where
  pub rows : List Row
  pub schema : Option JsonValue
