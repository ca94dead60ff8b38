-- Component types (OGC 22-025r4, "Component type").
use Rattle.std.specs.Prelude.{ℕ, ℤ, pos, neg_ℤ, ◌-◌, ◌*◌, ◌^◌, ◌≤ℤ◌, ◌&&◌, int_le, Bool, true, false}
use Rattle.std.specs.Prelude.{Option, Some, None, if◌then◌else◌, List, bytes_eq, codes}
use Rattle.meta_schema.specs.declared.component_type.ComponentType.{ComponentType}
use Rattle.meta_schema.specs.declared.component_type.ComponentType.TheVariants.{Int8, Uint8, Int16, Uint16, Int32, Uint32, Int64, Uint64}

-- how many bytes a value has
abbrev pub byte_count : ComponentType → ℕ
byte_count Int8 = 1
byte_count Uint8 = 1
byte_count Int16 = 2
byte_count Uint16 = 2
byte_count Int32 = 4
byte_count Uint32 = 4
byte_count Int64 = 8
byte_count Uint64 = 8

abbrev pub is_signed : ComponentType → Bool
is_signed Int8 = true
is_signed Uint8 = false
is_signed Int16 = true
is_signed Uint16 = false
is_signed Int32 = true
is_signed Uint32 = false
is_signed Int64 = true
is_signed Uint64 = false

abbrev pub bit_count : ComponentType → ℕ
bit_count c = 8 * byte_count c

-- the least value of the type, and its greatest
abbrev pub type_least : ComponentType → ℤ
type_least c = if is_signed c then neg_ℤ (pos (2 ^ (bit_count c - 1))) else pos 0

abbrev pub type_greatest : ComponentType → ℤ
type_greatest c =
    if is_signed c then pos (2 ^ (bit_count c - 1) - 1) else pos (2 ^ bit_count c - 1)

-- the value is one of the type
abbrev pub IsOfType : ComponentType → ℤ → Type 0
IsOfType c n = (type_least c ≤ℤ n) × (n ≤ℤ type_greatest c)

abbrev pub is_of_type : ComponentType → ℤ → Bool
is_of_type c n = int_le (type_least c) n && int_le n (type_greatest c)

-- the type of whole numbers that a text names
abbrev pub component_named : List ℕ → Option ComponentType
component_named name =
    if bytes_eq name (codes "INT8") then Some Int8
    else if bytes_eq name (codes "UINT8") then Some Uint8
    else if bytes_eq name (codes "INT16") then Some Int16
    else if bytes_eq name (codes "UINT16") then Some Uint16
    else if bytes_eq name (codes "INT32") then Some Int32
    else if bytes_eq name (codes "UINT32") then Some Uint32
    else if bytes_eq name (codes "INT64") then Some Int64
    else if bytes_eq name (codes "UINT64") then Some Uint64
    else None
