-- What reading tiles adds to a list of them.
use Rattle.std.specs.Prelude.{◌≡◌, ℕ, Option, Some, None, Result, Ok, Err, List, [], ◌∷◌, ◌++◌, codes}
use Rattle.json_decimal.specs.Handles.{items_left}
use Rattle.json_decimal.specs.JsonValue.{JsonValue, last_of}
use Rattle.json_decimal.specs.Parts.{items_of, members_of}
use Rattle.json_decimal.specs.declared.json_items.JsonItems.{JsonItems}
use Rattle.tileset_schema.specs.Causes.{Read, ◌>>=◌, or_cause, or_default, Fails}
use Rattle.tileset_schema.specs.Parts.{Members, WrittenParts, parts}
use Rattle.tileset_schema.specs.Preorder.{Row, rows, all_rows}
use Rattle.tileset_schema.specs.Tiles.{WrittenTile, WrittenTiles, may_have, one_more}
use Rattle.tileset_schema.specs.declared.error.DocumentError.{DocumentError}
use Rattle.tileset_schema.specs.declared.error.DocumentError.TheVariants.{Shape}
use Rattle.tileset_schema.specs.declared.field.Field.TheVariants.{Children, Tile as TileField}

-- the number of one more tile behind so many
abbrev pub next_number : ℕ → Read ℕ
next_number count = one_more count >>= λ u. Ok count

-- the values of the children, none where there is no such member; `tiling` is the member
-- `implicitTiling`
abbrev pub child_list : ℕ → Option JsonValue → JsonValue → Read (List JsonValue)
child_list tile tiling v =
    or_cause (Shape Children tile) (items_of v) >>= λ vs. may_have tile tiling vs >>= λ u. Ok vs

abbrev pub child_values : ℕ → Option JsonValue → Option JsonValue → Read (List JsonValue)
child_values tile tiling value = or_default [] (child_list tile tiling) value

-- those of a tile of these members
abbrev pub children_in : ℕ → Members → Read (List JsonValue)
children_in tile members = child_values tile (last_of (codes "implicitTiling") members)
    (last_of (codes "children") members)

abbrev pub children_left : Option JsonItems → List JsonValue
children_left None = []
children_left (Some items) = items_left items

-- the row of a tile without children
abbrev pub alone : WrittenParts → Row
alone own = record { parts = own; size = 1 }

-- the tile that is read, which has no children yet, stands behind the others, or there is none
-- for
-- this cause
abbrev pub Pushes : List Row → List Row → Result (Unit {0}) DocumentError → Read WrittenParts
    → Type 0
Pushes old new (Ok u) read = (own : WrittenParts) × (read ≡ Ok own) ×
    (new ≡ old ++ alone own ∷ [])
Pushes old new (Err e) read = Fails e read

-- a tile's own steps: what it says, and the values of its children
abbrev pub own_tile : List ℕ → ℕ → JsonValue → Read (WrittenParts × List JsonValue)
own_tile base number v =
    one_more number >>= λ u.
    or_cause (Shape TileField number) (members_of v) >>= λ members.
    parts base number members >>= λ own.
    children_in number members >>= λ vs.
    Ok (own, vs)

-- the same of a tile whose children are given
abbrev pub AddsOne : List Row → List Row → Result (Option JsonItems) DocumentError → Read
    (WrittenParts × List JsonValue) → Type 0
AddsOne old new (Ok items) read =
    (own : WrittenParts) × (read ≡ Ok (own, children_left items)) × (new ≡ old ++ alone own ∷ [])
AddsOne old new (Err e) read = Fails e read

-- the tiles of the tree that is read stand behind the others, or there is no tree for this cause
abbrev pub Adds : List Row → List Row → Result (Unit {0}) DocumentError → Read WrittenTile
    → Type 0
Adds old new (Ok u) read = (t : WrittenTile) × (read ≡ Ok t) × (new ≡ old ++ rows t)
Adds old new (Err e) read = Fails e read

-- the same of several trees
abbrev pub AddsAll : List Row → List Row → Result (Unit {0}) DocumentError → Read WrittenTiles
    → Type 0
AddsAll old new (Ok u) read = (ts : WrittenTiles) × (read ≡ Ok ts) × (new ≡ old ++ all_rows ts)
AddsAll old new (Err e) read = Fails e read
