-- The tree of the tiles of a document (OGC 22-025r4, "Tileset JSON"), or the first cause why it
-- isn't read.
use Rattle.std.specs.Prelude.{ℕ, ◌+◌, nat_lt, Bool, false, not, ◌&&◌, ◌||◌, if◌then◌else◌, Option, Some, None, Ok, Err, List, [], ◌∷◌, codes, bytes_eq}
use Rattle.json_decimal.specs.JsonValue.{JsonValue, Values, Pairs, list, object, no_values, value, no_pairs, pair, pairs_of, list_of, last_of}
use Rattle.tileset_schema.specs.Causes.{Read, ◌>>=◌}
use Rattle.tileset_schema.specs.Parts.{WrittenParts, parts}
use Rattle.tileset_schema.specs.declared.limits.TheConstants.{TILE_LIMIT}
use Rattle.tileset_schema.specs.declared.field.Field.TheVariants.{Tile as TileField, Children}
use Rattle.tileset_schema.specs.declared.error.DocumentError.TheVariants.{Shape, TooManyTiles, ImplicitChildren}

mutual
  -- what a tile says, and its children
  pub data WrittenTile : Type 0 where
    written : WrittenParts → WrittenTiles → WrittenTile

  pub data WrittenTiles : Type 0 where
    no_tiles : WrittenTiles
    more_tiles : WrittenTile → WrittenTiles → WrittenTiles

-- how many tiles a tree has
abbrev mutual
  pub tile_count : WrittenTile → ℕ
  tile_count (written own children) = tiles_count children + 1

  pub tiles_count : WrittenTiles → ℕ
  tiles_count no_tiles = 0
  tiles_count (more_tiles t ts) = tile_count t + tiles_count ts

-- one more tile, where so many stand before it
abbrev pub one_more : ℕ → Read (Unit {0})
one_more count = if nat_lt count TILE_LIMIT then Ok tt else Err TooManyTiles

abbrev pub has_member : List ℕ → Pairs → Bool
has_member name no_pairs = false
has_member name (pair key v members) = bytes_eq key name || has_member name members

-- the member of this key has the name, and none behind it has: of members of one name the last
-- counts
abbrev pub is_last : List ℕ → List ℕ → Pairs → Bool
is_last name key behind = bytes_eq key name && not (has_member name behind)

-- beside `implicitTiling` a tile writes no children
abbrev pub may_have : ℕ → Option JsonValue → List JsonValue → Read (Unit {0})
may_have tile None items = Ok tt
may_have tile (Some v) [] = Ok tt
may_have tile (Some v) (item ∷ items) = Err (ImplicitChildren tile)

abbrev mutual
  -- the tile of this number, below this address: what it says, and then its children, in order
  pub tile : List ℕ → ℕ → JsonValue → Read WrittenTile
  tile base number (object members) =
      one_more number >>= λ u.
      parts base number (pairs_of members) >>= λ own.
      children base number (last_of (codes "implicitTiling") (pairs_of members)) members
      >>= λ below.
      Ok (written own below)
  tile base number v = one_more number >>= λ u. Err (Shape TileField number)

  -- the tiles of the member `children`, none where there is no such member; `tiling` is the member
  -- `implicitTiling`
  pub children : List ℕ → ℕ → Option JsonValue → Pairs → Read WrittenTiles
  children base number tiling no_pairs = Ok no_tiles
  children base number tiling (pair key v members) =
      if is_last (codes "children") key members then listed base number tiling v
      else children base number tiling members

  pub listed : List ℕ → ℕ → Option JsonValue → JsonValue → Read WrittenTiles
  listed base number tiling (list items) =
      may_have number tiling (list_of items) >>= λ u. tiles base (number + 1) items
  listed base number tiling v = Err (Shape Children number)

  -- tiles in order, of which the first has this number, and each other one the next behind all
  -- tiles of the one before
  pub tiles : List ℕ → ℕ → Values → Read WrittenTiles
  tiles base number no_values = Ok no_tiles
  tiles base number (value v vs) =
      tile base number v >>= λ t.
      tiles base (number + tile_count t) vs >>= λ ts.
      Ok (more_tiles t ts)
