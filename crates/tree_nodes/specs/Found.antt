-- What is known of a tileset, and of a subtree.
use Rattle.std.specs.Prelude.{ℕ, ◌≡◌, Some, List, slice_get}
use Rattle.std.specs.Option.{option_and_then}
use Rattle.tile_types.specs.declared.key.Key.{Key}
use Rattle.tile_uri.specs.Addresses.{IsAddress}
use Rattle.tileset_schema.specs.Tiles.{WrittenTile}
use Rattle.subtree_binary.specs.Subtrees.{SubtreeParts}
use Rattle.tileset_schema.specs.Preorder.{rows}
use Rattle.doc_store.specs.Docs.{waiting, lost, here, subtree_at, tileset_at, tileset_key}
use Rattle.doc_store.specs.Kept.{HasCountsOf}
use Rattle.doc_store.specs.States.{subtree_of}
use Rattle.doc_store.specs.Store.{Stored, docs}
use Rattle.tree_nodes.specs.declared.found.Found.{Found}
use Rattle.tree_nodes.specs.declared.found.Found.TheVariants.{Waiting, Lost, Here}
use Rattle.tree_nodes.specs.Tiles.{address_in, document_rows}

-- the tileset at the address is the document of this number
pub record IsNumber (store : Stored) (address : List ℕ) (document : ℕ) : Type 0 where
  pub root : WrittenTile
  pub read : tileset_at (docs store) address ≡ here root
  pub tiles : document_rows store document ≡ Some (rows root)
  pub stands : address_in store document ≡ address

-- the tileset at the address isn't loaded, and this is its key
pub record IsWaiting (store : Stored) (address : List ℕ) (key : Key) : Type 0 where
  pub unread : tileset_at (docs store) address ≡ waiting
  pub key_is : key ≡ tileset_key address

abbrev pub IsFound : Stored → List ℕ → Found → Type 0
IsFound store address (Waiting key) = IsWaiting store address key
IsFound store address Lost = tileset_at (docs store) address ≡ lost
IsFound store address (Here document) = IsNumber store address document

-- this is what is known of the tileset at some address
pub record IsFoundSome (store : Stored) (found : Found) : Type 0 where
  pub address : List ℕ
  pub is : IsFound store address found
  pub is_address : IsAddress address

-- the subtree of the key is read, and has this number
pub record IsSubtree (store : Stored) (key : Key) (number : ℕ) : Type 0 where
  pub parts : SubtreeParts
  pub found : subtree_at (docs store) key ≡ here parts
  pub read : option_and_then subtree_of (slice_get store.loaded number) ≡ Some parts
  pub counts : HasCountsOf key.kind parts
