-- Where the bits of implicit tiles are, by the numbers of documents in a store.
use Rattle.std.specs.Prelude.{ℕ, ◌≡◌, ⊤, Option, Some, None, option_map, slice_get}
use Rattle.std.specs.Option.{option_and_then}
use Rattle.subtree_binary.specs.Found.{here}
use Rattle.subtree_binary.specs.Subtrees.{SubtreeParts}
use Rattle.tile_types.specs.declared.key.Key.{Key}
use Rattle.doc_store.specs.Docs.{subtree_at, tileset_key}
use Rattle.doc_store.specs.States.{subtree_of}
use Rattle.doc_store.specs.Store.{Stored, docs}
use Rattle.expanded_tree.specs.Tree.{Origin, Tree, tile, pending}
use Rattle.tree_nodes.specs.declared.table_place.TablePlace.{TablePlace}

-- where a tile comes from, if it is implicit
abbrev pub origin_of : Tree → Option Origin
origin_of (tile parts children) = parts.origin
origin_of (pending name facts key) = None

-- the key of the document of a number
abbrev pub key_in : Stored → ℕ → Option Key
key_in store number = option_map (λ l. l.key) (slice_get store.loaded number)

-- the subtree of the origin is read, and has this number
pub record IsSubtreeNumber (store : Stored) (origin : Origin) (number : ℕ) : Type 0 where
  pub parts : SubtreeParts
  pub found : subtree_at (docs store) origin.subtree ≡ here parts
  pub read : option_and_then subtree_of (slice_get store.loaded number) ≡ Some parts

-- the numbers of the origin's document and of its subtree, and its index
pub record IsTablePlace (store : Stored) (origin : Origin) (place : TablePlace) : Type 0 where
  pub document : key_in store place.document ≡ Some (tileset_key origin.document)
  pub subtree : IsSubtreeNumber store origin place.subtree
  pub index : place.index ≡ origin.index

-- what is told of a tile that comes from there
abbrev pub TellsPlace : Stored → Option Origin → Option TablePlace → Type 0
TellsPlace store None None = ⊤
TellsPlace store None (Some place) = ⊥
TellsPlace store (Some origin) None = ⊥
TellsPlace store (Some origin) (Some place) = IsTablePlace store origin place
