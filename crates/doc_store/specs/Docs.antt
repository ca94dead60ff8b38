-- Documents at hand, and what is known of a key.
use Rattle.std.specs.Prelude.{ℕ, Bool, not, ◌&&◌, if◌then◌else◌, Option, Some, None, is_none}
use Rattle.std.specs.Prelude.{Result, Ok, Err, List, [], ◌∷◌}
use Rattle.std.specs.List.{list_any}
use Rattle.tile_types.specs.declared.key.Key.{Key}
use Rattle.tile_types.specs.declared.key.Kind.{Kind}
use Rattle.tile_types.specs.declared.key.Kind.TheVariants.{Content, Tileset, Subtree}
use Rattle.tile_types.specs.Keys.{same_kind, same_key}
use Rattle.tile_uri.specs.Addresses.{address_of}
use Rattle.tileset_schema.specs.Documents.{document}
use Rattle.tileset_schema.specs.Tiles.{WrittenTile}
use Rattle.subtree_binary.specs.Reading.{subtree}
use Rattle.subtree_binary.specs.Subtrees.{SubtreeParts}
pub use Rattle.subtree_binary.specs.Found.{Found, waiting, lost, here, here_of}

-- the bytes of the loaded keys, and which keys are absent
pub record Docs : Type 0 where
  pub loaded : Key → Option (List ℕ)
  pub gone : Key → Bool

-- ---- documents from lists

pub record Loaded : Type 0 where
  pub key : Key
  pub bytes : List ℕ

abbrev pub bytes_of : List Loaded → Key → Option (List ℕ)
bytes_of [] key = None
bytes_of (l ∷ ls) key = if same_key key l.key then Some l.bytes else bytes_of ls key

abbrev pub docs_of : List Loaded → List Key → Docs
docs_of loaded gone = record {
  loaded = bytes_of loaded;
  gone = λ key. list_any (same_key key) gone;
}

-- ---- what bytes are read as

abbrev pub if_read : {E A : Type 0} → Result A E → Option A
if_read (Ok a) = Some a
if_read (Err e) = None

abbrev pub read_at : {E : Type 0} → List ℕ → Result (List ℕ) E → Option WrittenTile
read_at bytes (Ok base) = if_read (document bytes base)
read_at bytes (Err e) = None

-- the root tile of the document that these bytes are at this address, if they are one
unfoldable pub tileset_in : List ℕ → List ℕ → Option WrittenTile
tileset_in address bytes = read_at bytes (address_of address)

-- the subtree that these bytes are for a key of this kind, if they are one
abbrev pub subtree_for : Kind → List ℕ → Option SubtreeParts
subtree_for Content bytes = None
subtree_for Tileset bytes = None
subtree_for (Subtree octree levels contents) bytes =
    if_read (subtree octree levels contents bytes)

-- ---- what is known of a key

-- bytes that are refused are lost
abbrev pub as_read : {A : Type 0} → Option A → Found A
as_read None = lost
as_read (Some a) = here a

abbrev pub found_in : {A : Type 0} → (List ℕ → Option A) → Option (List ℕ) → Found A
found_in read None = waiting
found_in read (Some bytes) = as_read (read bytes)

abbrev pub found : {A : Type 0} → (List ℕ → Option A) → Docs → Key → Found A
found read docs key = if docs.gone key then lost else found_in read (docs.loaded key)

abbrev pub tileset_key : List ℕ → Key
tileset_key address = record { kind = Tileset; address = address }

abbrev pub is_content : Key → Bool
is_content key = same_kind key.kind Content

abbrev pub is_tileset : Key → Bool
is_tileset key = same_kind key.kind Tileset

-- the tileset at an address
abbrev pub tileset_at : Docs → List ℕ → Found WrittenTile
tileset_at docs address = found (tileset_in address) docs (tileset_key address)

-- the subtree of a key
abbrev pub subtree_at : Docs → Key → Found SubtreeParts
subtree_at docs key = found (subtree_for key.kind) docs key

-- the key is neither loaded nor absent
abbrev pub is_unread : Docs → Key → Bool
is_unread docs key = not (docs.gone key) && is_none (docs.loaded key)
