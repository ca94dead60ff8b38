-- What a schema's value says (OGC 22-025r4, "Metadata schema"), or the first cause why it isn't read:
-- the enums are read before the classes, and each in its written order.
use Rattle.std.specs.Prelude.{ℕ, Ok, List, codes}
use Rattle.json_decimal.specs.JsonValue.{JsonValue, last_of}
use Rattle.meta_schema.specs.Causes.{Read, ◌>>=◌, each}
use Rattle.meta_schema.specs.Classes.{class_of}
use Rattle.meta_schema.specs.Enums.{enumeration}
use Rattle.meta_schema.specs.Members.{Members, names, object_of, named_at}
use Rattle.meta_schema.specs.Schemas.{SchemaParts, EnumParts, ClassParts}
use Rattle.meta_schema.specs.declared.error.Field.TheVariants.{Top, Classes, Enums}

abbrev pub enums_of : Members → Read (List EnumParts)
enums_of members = each (λ m. enumeration m.1) members

abbrev pub classes_of : List (List ℕ) → Members → Read (List ClassParts)
classes_of enums own = named_at Classes (last_of (codes "classes") own) >>= each (class_of enums)

unfoldable pub schema : JsonValue → Read SchemaParts
schema v =
    object_of Top v >>= λ own.
    named_at Enums (last_of (codes "enums") own) >>= λ members.
    enums_of members >>= λ enums.
    classes_of (names members) own >>= λ classes.
    Ok (record { enums = enums; classes = classes })
