-- What a metadata schema says (OGC 22-025r4, "Metadata schema").
use Rattle.std.specs.Prelude.{ℕ, ℤ, List, Option, option_map, bytes_eq, find, slice_get}
use Rattle.std.specs.Ordering.{int_eq}
pub use Rattle.meta_schema.specs.Components.{byte_count, type_least, type_greatest, IsOfType}
use Rattle.meta_schema.specs.declared.component_type.ComponentType.{ComponentType}
use Rattle.meta_schema.specs.declared.property.PropertyType.{PropertyType}

-- a value of an enum by its name
pub record EnumValueParts : Type 0 where
  pub name : List ℕ
  pub value : ℤ

-- the type of an enum's values, and they in order
pub record EnumParts : Type 0 where
  pub component : ComponentType
  pub values : List EnumValueParts

pub record PropertyParts : Type 0 where
  pub name : List ℕ
  pub kind : PropertyType

pub record ClassParts : Type 0 where
  pub name : List ℕ
  pub properties : List PropertyParts

-- enums, which properties name by their numbers from 0, and classes
pub record SchemaParts : Type 0 where
  pub enums : List EnumParts
  pub classes : List ClassParts

-- the class of this name
abbrev pub class_named : List ℕ → List ClassParts → Option ClassParts
class_named name classes = find (λ c. bytes_eq c.name name) classes

-- the enum of this number
abbrev pub enum_numbered : ℕ → List EnumParts → Option EnumParts
enum_numbered number enums = slice_get enums number

-- the name of the first of the values that is this one
abbrev pub value_name : ℤ → List EnumValueParts → Option (List ℕ)
value_name n values = option_map (λ v. v.name) (find (λ v. int_eq v.value n) values)
