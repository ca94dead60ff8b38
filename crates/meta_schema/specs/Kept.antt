-- What is so of every schema that is read.
use Rattle.std.specs.Prelude.{ℕ, ◌<◌, ⊤, map, length, All, bytes_eq}
use Rattle.std.specs.List.{IsDistinct}
use Rattle.meta_schema.specs.Components.{IsOfType}
use Rattle.meta_schema.specs.Schemas.{SchemaParts, ClassParts, EnumParts}
use Rattle.meta_schema.specs.declared.property.PropertyType.{PropertyType}
use Rattle.meta_schema.specs.declared.property.PropertyType.TheVariants.{Whole, Boolean, Words, Enum, Skipped}

-- there are more enums than the number that the property names, where it names one
abbrev pub HasEnum : ℕ → PropertyType → Type 0
HasEnum enums (Enum number) = number < enums
HasEnum enums (Whole component) = ⊤
HasEnum enums Boolean = ⊤
HasEnum enums Words = ⊤
HasEnum enums Skipped = ⊤

-- the enums of its properties are among so many, and its properties have names of their own
pub record IsClass (enums : ℕ) (c : ClassParts) : Type 0 where
  pub known : All (λ p. HasEnum enums p.kind) c.properties
  pub apart : IsDistinct bytes_eq (map (λ p. p.name) c.properties)

-- each value is one of the enum's type
abbrev pub IsEnum : EnumParts → Type 0
IsEnum e = All (λ v. IsOfType e.component v.value) e.values

pub record IsSchema (s : SchemaParts) : Type 0 where
  pub enums : All IsEnum s.enums
  pub classes : All (IsClass (length s.enums)) s.classes
  pub apart : IsDistinct bytes_eq (map (λ c. c.name) s.classes)
