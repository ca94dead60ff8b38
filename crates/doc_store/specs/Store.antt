-- What a store holds.
use Rattle.std.specs.Prelude.{◌≡◌, ◌⊎◌, ◌<◌, ◌≤◌, ◌+◌, ⊤, ℕ, Bool, Ok, List, [], ◌∷◌, ◌++◌}
use Rattle.std.specs.Prelude.{length}
use Rattle.tile_types.specs.declared.key.Key.{Key}
use Rattle.tile_types.specs.declared.key.Kind.{Kind}
use Rattle.tile_types.specs.declared.key.Kind.TheVariants.{Content, Tileset, Subtree}
use Rattle.tileset_schema.specs.Documents.{document}
use Rattle.tileset_schema.specs.Tiles.{WrittenTile}
use Rattle.subtree_binary.specs.Counts.{level_limit}
use Rattle.doc_store.specs.Docs.{Docs, Loaded, here, docs_of, tileset_at, tileset_key}
use Rattle.doc_store.specs.declared.limits.TheConstants.{STORE_BYTES, STORE_DOCUMENTS}

-- the loaded documents in the order in which they came, the root first; the absent keys in the
-- order in which they were marked; and for how many more there is memory
pub record Stored : Type 0 where
  pub loaded : List Loaded
  pub gone : List Key
  pub spare : ℕ

abbrev pub docs : Stored → Docs
docs store = docs_of store.loaded store.gone

-- ---- documents

-- a subtree has this many levels (OGC 22-025r4, "Subtrees")
pub record IsWithinLevels (octree : Bool) (levels : ℕ) : Type 0 where
  pub some : 1 ≤ levels
  pub few : levels ≤ level_limit octree

-- a document is a tileset, or a subtree whose levels are within the limits
abbrev pub IsDocumentKind : Kind → Type 0
IsDocumentKind Content = ⊥
IsDocumentKind Tileset = ⊤
IsDocumentKind (Subtree octree levels contents) = IsWithinLevels octree levels

-- ---- room

abbrev pub total_bytes : List Loaded → ℕ
total_bytes [] = 0
total_bytes (l ∷ ls) = length l.bytes + total_bytes ls

-- so many bytes more don't fit: there are as many documents as there may be, or too many bytes
abbrev pub IsFull : Stored → ℕ → Type 0
IsFull store more =
    (STORE_DOCUMENTS < length store.loaded + 1) ⊎ (STORE_BYTES < total_bytes store.loaded + more)

-- ---- stores

-- the store with one more document
abbrev pub with_document : Stored → Key → List ℕ → Stored
with_document store key bytes = record store {
  loaded = store.loaded ++ record { key = key; bytes = bytes } ∷ [];
}

-- the store holds one tileset alone
pub record IsAlone (store : Stored) (address bytes : List ℕ) : Type 0 where
  pub loaded : store.loaded ≡ record { key = tileset_key address; bytes = bytes } ∷ []
  pub gone : store.gone ≡ []

-- the store holds the root document alone, which is read
pub record IsOpened (store : Stored) (root bytes : List ℕ) : Type 0 where
  pub alone : IsAlone store root bytes
  pub tree : WrittenTile
  pub read : document bytes root ≡ Ok tree
  pub at_root : tileset_at (docs store) root ≡ here tree
