-- What was read of a tile.
use Rattle.std.specs.Prelude.{ℕ, Option}
use Rattle.fixed_geometry.specs.Maps.{Map}
use Rattle.tile_types.specs.declared.refine.Refine.{Refine}
use Rattle.volumes.specs.declared.volume.Volume.{Volume}
use Rattle.tileset_schema.specs.Parts.{ContentParts, WrittenParts}

abbrev pub parts_by : Volume → Option Volume → ℕ → Option Refine → Map → ContentParts
    → WrittenParts
parts_by volume request error refine transform own = record {
  volume = volume;
  request = request;
  error = error;
  refine = refine;
  transform = transform;
  contents = own.addresses;
  implicit = own.implicit;
}
