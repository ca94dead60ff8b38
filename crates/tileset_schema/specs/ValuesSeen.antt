-- The values of the members of a tile, as handles give them.
use Rattle.tileset_schema.specs.Named.{Values}
use Rattle.tileset_schema.specs.Seen.{value_seen}
use Rattle.tileset_schema.specs.declared.tile_values.TileValues.{TileValues}

abbrev pub values_seen : TileValues → Values
values_seen values = record {
  bounding_volume = value_seen values.bounding_volume;
  viewer_request_volume = value_seen values.viewer_request_volume;
  geometric_error = value_seen values.geometric_error;
  refine = value_seen values.refine;
  transform = value_seen values.transform;
  content = value_seen values.content;
  contents = value_seen values.contents;
  implicit_tiling = value_seen values.implicit_tiling;
  children = value_seen values.children;
}
