-- What is kept of the schemas of documents.
use Rattle.std.specs.Prelude.{ℕ, ◌≡◌, ⊤, Option, Some, None, Ok, Err, List, option_map, slice_get}
use Rattle.json_decimal.specs.JsonValue.{JsonValue}
use Rattle.doc_store.specs.Docs.{tileset_key}
use Rattle.doc_store.specs.States.{schema_at}
use Rattle.doc_store.specs.Store.{Stored, docs}
use Rattle.meta_schema.specs.Reading.{schema}
use Rattle.tree_nodes.specs.TablePlaces.{key_in}
use Rattle.tile_metadata.specs.declared.held.Held.{Held}
use Rattle.tile_metadata.specs.declared.held.Held.TheVariants.{Unread, Without, Read, Refused}
use Rattle.tile_metadata.specs.declared.schemas.Schemas.{Schemas}

-- this is what is read of a document's schema, if it has one
abbrev pub IsHeld : Option JsonValue → Held → Type 0
IsHeld json Unread = ⊤
IsHeld json Without = json ≡ None
IsHeld json (Read s) = option_map schema json ≡ Some (Ok s)
IsHeld json (Refused cause) = option_map schema json ≡ Some (Err cause)

-- of the document of this number
abbrev pub IsHeldOf : Stored → ℕ → Held → Type 0
IsHeldOf store number held = (address : List ℕ)
    → key_in store number ≡ Some (tileset_key address) → IsHeld (schema_at (docs store) address) held

-- each by its number
abbrev pub AreHeld : Stored → List Held → Type 0
AreHeld store all = (number : ℕ) (held : Held) → slice_get all number ≡ Some held
    → IsHeldOf store number held

-- the schemas are of this store
abbrev pub AreKept : Stored → Schemas → Type 0
AreKept store s = AreHeld store s.held.items
