-- The classes of a schema (OGC 22-025r4, "Class" and "Property"). Each step is made where those
-- before it found no cause.
use Rattle.std.specs.Prelude.{ℕ, Bool, false, ◌||◌, List, Option, Some, None, is_some}
use Rattle.std.specs.Prelude.{Ok, codes, bytes_eq, position, if◌then◌else◌, unwrap_or}
use Rattle.std.specs.Option.{option_and_then}
use Rattle.json_decimal.specs.JsonValue.{JsonValue, last_of}
use Rattle.json_decimal.specs.Parts as parts
use Rattle.meta_schema.specs.Causes.{Read, ◌>>=◌, or_cause, each}
use Rattle.meta_schema.specs.Components.{component_named}
use Rattle.meta_schema.specs.Members.{Members, object_of, text_at, named_at}
use Rattle.meta_schema.specs.Schemas.{ClassParts, PropertyParts}
use Rattle.meta_schema.specs.declared.component_type.ComponentType.{ComponentType}
use Rattle.meta_schema.specs.declared.property.PropertyType.{PropertyType}
use Rattle.meta_schema.specs.declared.property.PropertyType.TheVariants as kind
use Rattle.meta_schema.specs.declared.error.Field.TheVariants.{Class, Properties, Property, «Type», ComponentType as ComponentField}
use Rattle.meta_schema.specs.declared.error.SchemaError.TheVariants.{UnknownEnum}

-- the member is there
abbrev pub has : List ℕ → Members → Bool
has name own = is_some (last_of name own)

-- its value is `true`
abbrev pub is_true : List ℕ → Members → Bool
is_true name own = unwrap_or (option_and_then parts.truth_of (last_of name own)) false

-- a property that isn't read, whatever its type
abbrev pub is_skipped : Members → Bool
is_skipped own =
    is_true (codes "array") own || is_true (codes "normalized") own
    || has (codes "offset") own || has (codes "scale") own
    || has (codes "noData") own || has (codes "default") own

-- whole numbers of the type that is named; other numbers aren't read
abbrev pub numbers_of : Option ComponentType → PropertyType
numbers_of (Some component) = kind.Whole component
numbers_of None = kind.Skipped

abbrev pub scalar_kind : Members → Read PropertyType
scalar_kind own =
    text_at ComponentField (last_of (codes "componentType") own) >>= λ name.
    Ok (numbers_of (component_named name))

-- the number of the enum of this name
abbrev pub enum_number : List (List ℕ) → JsonValue → Option ℕ
enum_number enums v = option_and_then (λ name. position (bytes_eq name) enums) (parts.text_of v)

abbrev pub enum_kind : List (List ℕ) → Members → Read PropertyType
enum_kind enums own =
    or_cause UnknownEnum (option_and_then (enum_number enums) (last_of (codes "enumType") own))
    >>= λ number. Ok (kind.Enum number)

-- by the name of the type
abbrev pub kind_by : List (List ℕ) → Members → List ℕ → Read PropertyType
kind_by enums own name =
    if bytes_eq name (codes "SCALAR") then scalar_kind own
    else if bytes_eq name (codes "BOOLEAN") then Ok kind.Boolean
    else if bytes_eq name (codes "STRING") then Ok kind.Words
    else if bytes_eq name (codes "ENUM") then enum_kind enums own
    else Ok kind.Skipped

abbrev pub property_kind : List (List ℕ) → Members → Read PropertyType
property_kind enums own =
    text_at «Type» (last_of (codes "type") own) >>= λ name.
    if is_skipped own then Ok kind.Skipped else kind_by enums own name

-- the property of this name and value, where the enums have these names
abbrev pub property : List (List ℕ) → List ℕ × JsonValue → Read PropertyParts
property enums member =
    object_of Property member.1 >>= property_kind enums >>= λ own_kind.
    Ok (record { name = member.0; kind = own_kind })

abbrev pub class_of : List (List ℕ) → List ℕ × JsonValue → Read ClassParts
class_of enums member =
    object_of Class member.1 >>= λ own.
    named_at Properties (last_of (codes "properties") own)
    >>= each (property enums) >>= λ properties.
    Ok (record { name = member.0; properties = properties })
