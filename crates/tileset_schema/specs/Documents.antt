-- What the bytes of a tileset document are (OGC 22-025r4, "Tileset JSON").
use Rattle.std.specs.Prelude.{ℕ, Bool, false, ◌||◌, if◌then◌else◌, Option, Some, None, Ok, Err, List, codes, bytes_eq}
use Rattle.std.specs.List.{list_all}
use Rattle.std.specs.Option.{is_some}
use Rattle.json_decimal.specs.JsonValue.{JsonValue, last_of}
use Rattle.json_decimal.specs.Parts.{members_of, items_of, text_of}
use Rattle.json_decimal.specs.Reading.{value_in}
use Rattle.tileset_schema.specs.Causes.{Read, ◌>>=◌, or_cause, or_default}
use Rattle.tileset_schema.specs.Parts.{Members, geometric_error}
use Rattle.tileset_schema.specs.Tiles.{WrittenTile, tile}
use Rattle.tileset_schema.specs.declared.field.Field.TheVariants.{Top, Asset, Version as VersionField, ExtensionsRequired, Root}
use Rattle.tileset_schema.specs.declared.error.DocumentError.TheVariants.{NotJson, Shape, MissingField, Version, ExtensionRequired}

-- ---- the asset

abbrev pub is_version : List ℕ → Bool
is_version word = bytes_eq word (codes "1.0") || bytes_eq word (codes "1.1")

abbrev pub known_version : List ℕ → Read (Unit {0})
known_version word = if is_version word then Ok tt else Err Version

-- the version 1.0 or 1.1
abbrev pub asset : Option JsonValue → Read (Unit {0})
asset value =
    or_cause (MissingField Asset 0) value >>= λ v.
    or_cause (Shape Asset 0) (members_of v) >>= λ own.
    or_cause (MissingField VersionField 0) (last_of (codes "version") own) >>= λ version.
    or_cause (Shape VersionField 0) (text_of version) >>= known_version

-- ---- extensions

abbrev pub is_text : JsonValue → Bool
is_text v = is_some (text_of v)

abbrev pub is_known_text : Option (List ℕ) → Bool
is_known_text None = false
is_known_text (Some word) = bytes_eq word (codes "3DTILES_content_gltf")

abbrev pub is_known : JsonValue → Bool
is_known v = is_known_text (text_of v)

abbrev pub texts : List JsonValue → Read (List JsonValue)
texts vs = if list_all is_text vs then Ok vs else Err (Shape ExtensionsRequired 0)

abbrev pub known : List JsonValue → Read (Unit {0})
known vs = if list_all is_known vs then Ok tt else Err ExtensionRequired

-- a list of texts, each of which names an extension that changes nothing here
abbrev pub extensions : JsonValue → Read (Unit {0})
extensions v = or_cause (Shape ExtensionsRequired 0) (items_of v) >>= texts >>= known

abbrev pub required : Option JsonValue → Read (Unit {0})
required value = or_default tt extensions value

-- ---- the document

-- the value of the root tile
abbrev pub root : Members → Read JsonValue
root members =
    asset (last_of (codes "asset") members) >>= λ u.
    required (last_of (codes "extensionsRequired") members) >>= λ u.
    geometric_error 0 (last_of (codes "geometricError") members) >>= λ error.
    or_cause (MissingField Root 0) (last_of (codes "root") members)

-- the members of the top object
abbrev pub top : List ℕ → Read Members
top bytes = or_cause NotJson (value_in bytes) >>= λ v. or_cause (Shape Top 0) (members_of v)

-- the tree of the written tiles of these bytes at this address, or the first cause why they aren't
-- read
unfoldable pub document : List ℕ → List ℕ → Read WrittenTile
document bytes base = top bytes >>= root >>= tile base 0

abbrev pub schema_in : Read Members → Option JsonValue
schema_in (Ok members) = last_of (codes "schema") members
schema_in (Err e) = None

-- the metadata schema beside the tiles, where there is one
unfoldable pub schema : List ℕ → Option JsonValue
schema bytes = schema_in (top bytes)
