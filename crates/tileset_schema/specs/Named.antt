-- The values of the members of a tile that are read.
use Rattle.std.specs.Prelude.{ℕ, List, Option, Some, None, if◌then◌else◌, bytes_eq, codes}
use Rattle.json_decimal.specs.JsonValue.{JsonValue, later, last_of}
use Rattle.tileset_schema.specs.Parts.{Members}

pub record Values : Type 0 where
  pub bounding_volume : Option JsonValue
  pub viewer_request_volume : Option JsonValue
  pub geometric_error : Option JsonValue
  pub refine : Option JsonValue
  pub transform : Option JsonValue
  pub content : Option JsonValue
  pub contents : Option JsonValue
  pub implicit_tiling : Option JsonValue
  pub children : Option JsonValue

abbrev pub no_values : Values
no_values = record {
  bounding_volume = None;
  viewer_request_volume = None;
  geometric_error = None;
  refine = None;
  transform = None;
  content = None;
  contents = None;
  implicit_tiling = None;
  children = None;
}

-- those of the last member of each name
abbrev pub last_values : Members → Values
last_values members = record {
  bounding_volume = last_of (codes "boundingVolume") members;
  viewer_request_volume = last_of (codes "viewerRequestVolume") members;
  geometric_error = last_of (codes "geometricError") members;
  refine = last_of (codes "refine") members;
  transform = last_of (codes "transform") members;
  content = last_of (codes "content") members;
  contents = last_of (codes "contents") members;
  implicit_tiling = last_of (codes "implicitTiling") members;
  children = last_of (codes "children") members;
}

-- the value for a name with one more member
abbrev pub with_last : List ℕ → Option JsonValue → List ℕ × JsonValue → Option JsonValue
with_last name value member = if bytes_eq member.0 name then Some member.1 else value

abbrev pub with_member : Values → List ℕ × JsonValue → Values
with_member values member = record {
  bounding_volume = with_last (codes "boundingVolume") values.bounding_volume member;
  viewer_request_volume = with_last (codes "viewerRequestVolume") values.viewer_request_volume
      member;
  geometric_error = with_last (codes "geometricError") values.geometric_error member;
  refine = with_last (codes "refine") values.refine member;
  transform = with_last (codes "transform") values.transform member;
  content = with_last (codes "content") values.content member;
  contents = with_last (codes "contents") values.contents member;
  implicit_tiling = with_last (codes "implicitTiling") values.implicit_tiling member;
  children = with_last (codes "children") values.children member;
}

-- the values with those of further members
abbrev pub with_members : Values → Members → Values
with_members values members = record {
  bounding_volume = later (last_of (codes "boundingVolume") members) values.bounding_volume;
  viewer_request_volume = later (last_of (codes "viewerRequestVolume") members)
      values.viewer_request_volume;
  geometric_error = later (last_of (codes "geometricError") members) values.geometric_error;
  refine = later (last_of (codes "refine") members) values.refine;
  transform = later (last_of (codes "transform") members) values.transform;
  content = later (last_of (codes "content") members) values.content;
  contents = later (last_of (codes "contents") members) values.contents;
  implicit_tiling = later (last_of (codes "implicitTiling") members) values.implicit_tiling;
  children = later (last_of (codes "children") members) values.children;
}
