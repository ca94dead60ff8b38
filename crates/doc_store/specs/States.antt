-- What state a key is in, and what a document says.
use Rattle.std.specs.Prelude.{ℕ, if◌then◌else◌, Option, Some, None, option_map, List, position}
use Rattle.std.specs.Option.{option_and_then}
use Rattle.json_decimal.specs.JsonValue.{JsonValue}
use Rattle.tile_types.specs.declared.key.Key.{Key}
use Rattle.tile_types.specs.Keys.{same_key}
use Rattle.tileset_schema.specs.Documents.{schema}
use Rattle.tileset_schema.specs.Tiles.{WrittenTile}
use Rattle.tileset_schema.specs.Preorder.{Row, rows}
use Rattle.subtree_binary.specs.Subtrees.{SubtreeParts}
use Rattle.doc_store.specs.Docs.{Docs, Found, waiting, lost, here, Loaded, found_in, tileset_in}
use Rattle.doc_store.specs.Docs.{is_tileset, subtree_for, tileset_at, tileset_key}
use Rattle.doc_store.specs.Store.{Stored}
use Rattle.doc_store.specs.declared.state.DocState.{DocState}
use Rattle.doc_store.specs.declared.state.DocState.TheVariants.{NotLoaded, Read, Refused, Absent}

abbrev pub state_found : {A : Type 0} → Found A → DocState
state_found waiting = NotLoaded
state_found lost = Refused
state_found (here a) = Read

-- of what is loaded for a key: its bytes are read or refused as a tileset, or as a subtree
abbrev pub state_loaded : Key → Option (List ℕ) → DocState
state_loaded key loaded =
    if is_tileset key then state_found (found_in (tileset_in key.address) loaded)
    else state_found (found_in (subtree_for key.kind) loaded)

-- an absent key; else one that isn't loaded, or whose bytes are read or refused
abbrev pub state_in : Docs → Key → DocState
state_in docs key = if docs.gone key then Absent else state_loaded key (docs.loaded key)

-- ---- tiles in preorder

abbrev pub rows_found : Found WrittenTile → Option (List Row)
rows_found waiting = None
rows_found lost = None
rows_found (here root) = Some (rows root)

-- the tiles of the tileset at an address, where it is read
abbrev pub rows_at : Docs → List ℕ → Option (List Row)
rows_at docs address = rows_found (tileset_at docs address)

-- the tiles that these bytes are at this address, where they are read
abbrev pub rows_in : List ℕ → List ℕ → Option (List Row)
rows_in address bytes = option_map rows (tileset_in address bytes)

-- the tiles that these bytes are for a key, where it is a tileset's and they are read
abbrev pub rows_for : Key → List ℕ → Option (List Row)
rows_for key bytes = if is_tileset key then rows_in key.address bytes else None

-- the metadata schema of what is loaded for an address, where it has one
abbrev pub schema_at : Docs → List ℕ → Option JsonValue
schema_at docs address = option_and_then schema (docs.loaded (tileset_key address))

-- ---- documents by number, from 0, in the order in which they came

-- the number of a key's document
abbrev pub number_in : Stored → Key → Option ℕ
number_in store key = position (λ l. same_key key l.key) store.loaded

-- the tiles of a loaded tileset, where it is read
abbrev pub rows_of : Loaded → Option (List Row)
rows_of l = rows_for l.key l.bytes

abbrev pub schema_of : Loaded → Option JsonValue
schema_of l = schema l.bytes

-- a loaded subtree, where it is read
abbrev pub subtree_of : Loaded → Option SubtreeParts
subtree_of l = subtree_for l.key.kind l.bytes
