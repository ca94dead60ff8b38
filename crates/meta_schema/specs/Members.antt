-- Members of objects. Of a repeated name the last counts, which RFC 8259, section 4, leaves to the
-- reader.
use Rattle.std.specs.Prelude.{ℕ, not, Ok, List, [], ◌∷◌, Option, map, filter, bytes_eq, unwrap_or}
use Rattle.json_decimal.specs.JsonValue.{JsonValue, last_of}
use Rattle.json_decimal.specs.Parts as parts
use Rattle.meta_schema.specs.Causes.{Read, ◌>>=◌, or_cause, or_default}
use Rattle.meta_schema.specs.declared.error.Field.{Field}
use Rattle.meta_schema.specs.declared.error.SchemaError.TheVariants.{Shape}

abbrev pub Members : Type 0
Members = List (List ℕ × JsonValue)

abbrev pub names : Members → List (List ℕ)
names members = map (λ m. m.0) members

-- those of another name
abbrev pub others : List ℕ → Members → Members
others name members = filter (λ m. not (bytes_eq m.0 name)) members

-- each name once, at the place of its first member, with the value of its last
abbrev pub effective_members : Members → Members
effective_members [] = []
effective_members (m ∷ ms) =
    (m.0, unwrap_or (last_of m.0 ms) m.1) ∷ others m.0 (effective_members ms)

-- ---- the forms that a field has to have

abbrev pub object_of : Field → JsonValue → Read Members
object_of field v = or_cause (Shape field) (parts.members_of v)

abbrev pub list_of : Field → JsonValue → Read (List JsonValue)
list_of field v = or_cause (Shape field) (parts.items_of v)

abbrev pub text_of : Field → JsonValue → Read (List ℕ)
text_of field v = or_cause (Shape field) (parts.text_of v)

-- the text of a member that has to be there
abbrev pub text_at : Field → Option JsonValue → Read (List ℕ)
text_at field value = or_cause (Shape field) value >>= text_of field

-- the effective members of an object, of which there are none where it isn't there
abbrev pub named_of : Field → JsonValue → Read Members
named_of field v = object_of field v >>= λ members. Ok (effective_members members)

abbrev pub named_at : Field → Option JsonValue → Read Members
named_at field value = or_default [] (named_of field) value
