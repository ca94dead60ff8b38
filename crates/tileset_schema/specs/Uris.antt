-- The contents of a tile, one step for each.
use Rattle.std.specs.Prelude.{ℕ, Bool, Ok, List}
use Rattle.json_decimal.specs.JsonValue.{JsonValue}
use Rattle.tileset_schema.specs.Causes.{Read, ◌>>=◌, each}
use Rattle.tileset_schema.specs.Implicit.{template}
use Rattle.tileset_schema.specs.Parts.{objects, uri_of, address_of}

-- that something is read, whatever it is
abbrev pub done : {A : Type 0} → Read A → Read (Unit {0})
done read = read >>= λ x. Ok tt

-- the uris of contents of these values
abbrev pub uris : ℕ → List JsonValue → Read (List (List ℕ))
uris tile vs = objects tile vs >>= each (uri_of tile)

-- the address of a content
abbrev pub content_address : List ℕ → ℕ → JsonValue → Read (List ℕ)
content_address base tile v = uri_of tile v >>= address_of base tile

-- the addresses of contents of these values
abbrev pub addresses_by : List ℕ → ℕ → List JsonValue → Read (List (List ℕ))
addresses_by base tile vs = uris tile vs >>= each (address_of base tile)

-- the template of a content
abbrev pub content_template : Bool → ℕ → JsonValue → Read (List ℕ)
content_template octree tile v = uri_of tile v >>= template octree tile
