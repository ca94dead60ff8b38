-- The value of `implicitTiling`, as it is read.
use Rattle.std.specs.Prelude.{ℕ, Ok, List}
use Rattle.json_decimal.specs.JsonValue.{JsonValue}
use Rattle.volumes.specs.declared.volume.Volume.{Volume}
use Rattle.tileset_schema.specs.Causes.{Read, ◌>>=◌, each}
use Rattle.tileset_schema.specs.Implicit.{ImplicitParts, Subdivision, box_only, subdivision, with_contents}
use Rattle.tileset_schema.specs.Uris.{content_template}
use Rattle.tileset_schema.specs.declared.subdivision.OwnSubdivision.{OwnSubdivision}

abbrev pub subdivision_in : OwnSubdivision → Subdivision
subdivision_in own = record {
  octree = own.octree;
  subtree_levels = own.subtree_levels;
  available_levels = own.available_levels;
  subtrees = own.subtrees;
}

-- of a tile of this volume with contents of these values
abbrev pub tiling_of : ℕ → Volume → List JsonValue → JsonValue → Read ImplicitParts
tiling_of tile volume vs v =
    subdivision tile v >>= λ own.
    each (content_template own.octree tile) vs >>= λ contents.
    box_only tile volume >>= λ u.
    Ok (with_contents own contents)
