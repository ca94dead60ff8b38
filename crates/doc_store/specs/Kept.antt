-- How a store keeps its documents.
use Rattle.std.specs.Prelude.{◌≡◌, ◌<◌, ◌≤◌, ℕ, Bool, false, Option, Some, None, option_map}
use Rattle.std.specs.Prelude.{IfSome, List, length, map, slice_get}
use Rattle.std.specs.List.{list_any, AllByRecursion}
use Rattle.tile_types.specs.declared.key.Key.{Key}
use Rattle.tile_types.specs.declared.key.Kind.{Kind}
use Rattle.tile_types.specs.declared.key.Kind.TheVariants as kind
use Rattle.tile_types.specs.Keys.{same_key}
use Rattle.tile_uri.specs.Addresses.{IsAddress}
use Rattle.tileset_schema.specs.Documents.{schema}
use Rattle.tileset_schema.specs.Whole.{WholeDocument}
use Rattle.subtree_binary.specs.Subtrees.{HasCounts, SubtreeParts}
use Rattle.doc_store.specs.Docs.{Docs, Loaded, subtree_for}
use Rattle.doc_store.specs.Store.{Stored, docs, total_bytes}
use Rattle.doc_store.specs.States.{number_in, rows_for}
use Rattle.doc_store.specs.declared.state.DocState.{DocState}
use Rattle.doc_store.specs.declared.state.DocState.TheVariants as state
use Rattle.doc_store.specs.declared.reading.Reading.{Reading}
use Rattle.doc_store.specs.declared.reading.Reading.TheVariants.{Tileset, Subtree, Refused}
use Rattle.doc_store.specs.declared.loaded_document.LoadedDocument.{LoadedDocument}
use Rattle.doc_store.specs.declared.limits.TheConstants.{STORE_BYTES, STORE_DOCUMENTS}

-- ---- what is read

-- whether something is read
abbrev pub state_kept : Reading → DocState
state_kept (Tileset document) = state.Read
state_kept (Subtree subtree) = state.Read
state_kept Refused = state.Refused

abbrev pub tileset_kept : Reading → Option WholeDocument
tileset_kept (Tileset document) = Some document
tileset_kept (Subtree subtree) = None
tileset_kept Refused = None

abbrev pub subtree_kept : Reading → Option SubtreeParts
subtree_kept (Tileset document) = None
subtree_kept (Subtree subtree) = Some subtree
subtree_kept Refused = None

-- as many bits as a subtree of a key of this kind has
abbrev pub HasCountsOf : Kind → SubtreeParts → Type 0
HasCountsOf own subtree = (octree : Bool) (levels contents : ℕ)
    → own ≡ kind.Subtree octree levels contents → HasCounts octree levels contents subtree

-- what is read from a key's bytes: a tileset's tiles and its metadata schema, or a subtree
pub record IsReading (key : Key) (bytes : List ℕ) (reading : Reading) : Type 0 where
  pub tiles : option_map (λ d. d.rows) (tileset_kept reading) ≡ rows_for key bytes
  pub schema : IfSome (tileset_kept reading) (λ d. d.schema ≡ schema bytes)
  pub subtree : subtree_kept reading ≡ subtree_for key.kind bytes
  pub counts : IfSome (subtree_kept reading) (HasCountsOf key.kind)

-- ---- what a store keeps

-- a key, and the document that is loaded for it
abbrev pub Entry : Type 0
Entry = Key × LoadedDocument

abbrev pub loaded_of : Entry → Loaded
loaded_of entry = record { key = entry.0; bytes = entry.1.bytes }

abbrev pub IsRead : Entry → Type 0
IsRead entry = IsReading entry.0 entry.1.bytes entry.1.reading

-- the key isn't absent
abbrev pub IsNotGone : List Key → Entry → Type 0
IsNotGone gone entry = list_any (same_key entry.0) gone ≡ false

-- there is a root document at least, at an address
pub record AreKept (entries : List Entry) (gone : List Key) (total : ℕ) : Type 0 where
  pub some : 0 < length entries
  pub root : IfSome (slice_get entries 0) (λ entry. IsAddress entry.0.address)
  pub read : AllByRecursion IsRead entries
  pub apart : AllByRecursion (IsNotGone gone) entries
  pub total_is : total ≡ total_bytes (map loaded_of entries)
  pub bytes_fit : total ≤ STORE_BYTES
  pub documents_fit : length entries ≤ STORE_DOCUMENTS

-- ---- what is kept for a key

pub record IsLoaded (docs : Docs) (key : Key) (l : LoadedDocument) : Type 0 where
  pub present : docs.gone key ≡ false
  pub loaded : docs.loaded key ≡ Some l.bytes
  pub read : IsReading key l.bytes l.reading

abbrev pub IsNotLoaded : Docs → Key → Type 0
IsNotLoaded docs key = docs.loaded key ≡ None

-- what is loaded under a number of the store, and the one key of that number
pub record IsNumbered (store : Stored) (number : ℕ) (l : LoadedDocument) : Type 0 where
  pub own : Key
  pub at : slice_get store.loaded number ≡ Some (record { key = own; bytes = l.bytes })
  pub loaded : IsLoaded (docs store) own l
  pub named : (key : Key) → number_in store key ≡ Some number → key ≡ own
