-- The enums of a schema (OGC 22-025r4, "Enum" and "Enum value"). Each step is made where those
-- before it found no cause.
use Rattle.std.specs.Prelude.{ℤ, List, Option, Ok, Err, codes, if◌then◌else◌}
use Rattle.json_decimal.specs.JsonValue.{JsonValue, last_of}
use Rattle.json_decimal.specs.WholeNumbers.{integer}
use Rattle.meta_schema.specs.Causes.{Read, ◌>>=◌, or_cause, or_default, each}
use Rattle.meta_schema.specs.Components.{is_of_type, component_named}
use Rattle.meta_schema.specs.Members.{object_of, list_of, text_of, text_at}
use Rattle.meta_schema.specs.Schemas.{EnumParts, EnumValueParts}
use Rattle.meta_schema.specs.declared.component_type.ComponentType.{ComponentType}
use Rattle.meta_schema.specs.declared.component_type.ComponentType.TheVariants.{Uint16}
use Rattle.meta_schema.specs.declared.error.Field.TheVariants.{Enum, Values, Value, ValueType}
use Rattle.meta_schema.specs.declared.error.SchemaError.TheVariants.{Shape, OutOfRange}

-- a whole number of any size, in any spelling
abbrev pub whole_at : Option JsonValue → Read ℤ
whole_at value = or_cause (Shape Value) value >>= λ v. or_cause (Shape Value) (integer v)

-- one of the enum's type
abbrev pub in_type : ComponentType → ℤ → Read ℤ
in_type component n = if is_of_type component n then Ok n else Err OutOfRange

abbrev pub whole_in : ComponentType → Option JsonValue → Read ℤ
whole_in component value = whole_at value >>= in_type component

abbrev pub enum_value : ComponentType → JsonValue → Read EnumValueParts
enum_value component v =
    object_of Value v >>= λ own.
    text_at Value (last_of (codes "name") own) >>= λ name.
    whole_in component (last_of (codes "value") own) >>= λ n.
    Ok (record { name = name; value = n })

-- UINT16, where it isn't there
abbrev pub value_type_of : JsonValue → Read ComponentType
value_type_of v = text_of ValueType v >>= λ name. or_cause (Shape ValueType) (component_named name)

abbrev pub value_type : Option JsonValue → Read ComponentType
value_type value = or_default Uint16 value_type_of value

abbrev pub enum_values : ComponentType → Option JsonValue → Read (List EnumValueParts)
enum_values component value =
    or_cause (Shape Values) value >>= list_of Values >>= each (enum_value component)

-- the type of the values, and then they in order
abbrev pub enumeration : JsonValue → Read EnumParts
enumeration v =
    object_of Enum v >>= λ own.
    value_type (last_of (codes "valueType") own) >>= λ component.
    enum_values component (last_of (codes "values") own) >>= λ values.
    Ok (record { component = component; values = values })
