-- Tiles by the number of their document and their own number there, in preorder from 0.
use Rattle.std.specs.Prelude.{ℕ, ◌≡◌, Option, Some, None, List, [], ◌++◌, drop, slice_get}
use Rattle.std.specs.Option.{option_and_then, option_map_or}
use Rattle.tile_uri.specs.Addresses.{IsAddress}
use Rattle.tileset_schema.specs.Implicit.{ImplicitParts}
use Rattle.tileset_schema.specs.Tiles.{WrittenTile, WrittenTiles, written, no_tiles, tile_count}
use Rattle.tileset_schema.specs.Preorder.{Row, rows as rows_of_tile, trees}
use Rattle.doc_store.specs.Store.{Stored}
use Rattle.doc_store.specs.States.{rows_of}

-- the tiles of a document, where it is read
abbrev pub document_rows : Stored → ℕ → Option (List Row)
document_rows store document = option_and_then rows_of (slice_get store.loaded document)

-- the address of a document
abbrev pub address_in : Stored → ℕ → List ℕ
address_in store document =
    option_map_or (λ l. l.key.address) (slice_get store.loaded document) []

-- the tree of a tile among these
abbrev pub tile_among : List Row → ℕ → Option WrittenTile
tile_among tiles number = slice_get (trees (drop number tiles)) 0

abbrev pub tile_at : Stored → ℕ → ℕ → Option WrittenTile
tile_at store document number =
    option_and_then (λ tiles. tile_among tiles number) (document_rows store document)

-- the tiles of this tree stand at this number
pub record StandsAt (tiles : List Row) (number : ℕ) (t : WrittenTile) : Type 0 where
  pub behind : List Row
  pub here : drop number tiles ≡ rows_of_tile t ++ behind

-- the tile is there, in a document that stands at an address
pub record IsTileAt (store : Stored) (document number : ℕ) : Type 0 where
  pub tiles : List Row
  pub read : document_rows store document ≡ Some tiles
  pub tree : WrittenTile
  pub stands : StandsAt tiles number tree
  pub address : IsAddress (address_in store document)

-- what a tile says and how many tiles its tree has
abbrev pub row_of : WrittenTile → Row
row_of (written own children) =
    record { parts = own; size = tile_count (written own children) }

-- it is that of the tile
pub record HasRow (store : Stored) (document number : ℕ) (row : Row) : Type 0 where
  pub tree : WrittenTile
  pub at : tile_at store document number ≡ Some tree
  pub row_is : row ≡ row_of tree

-- the tiles of some tree stand at this number
pub record StandsIn (tiles : List Row) (number : ℕ) : Type 0 where
  pub tree : WrittenTile
  pub stands : StandsAt tiles number tree

-- the children of a tile, if there is one
abbrev pub children_in : Option WrittenTile → WrittenTiles
children_in None = no_tiles
children_in (Some (written own children)) = children

abbrev pub contents_in : Option WrittenTile → List (List ℕ)
contents_in None = []
contents_in (Some (written own children)) = own.contents

-- what a tile says of implicit tiles below it
abbrev pub part_of : WrittenTile → Option ImplicitParts
part_of (written own children) = own.implicit

abbrev pub part_at : Stored → ℕ → ℕ → Option ImplicitParts
part_at store document tile = option_and_then part_of (tile_at store document tile)

-- all tiles of some tree
pub record IsDocument (tiles : List Row) : Type 0 where
  pub root : WrittenTile
  pub whole : tiles ≡ rows_of_tile root
