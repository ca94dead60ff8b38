-- An implicit root, and what it says of each place below it.
use Rattle.std.specs.Prelude.{ℕ, ◌/◌, ◌^◌, ◌≤◌, ◌<◌, if◌then◌else◌, Option, List, [], length}
use Rattle.std.specs.Prelude.{option_map, slice_index_or}
use Rattle.std.specs.Result.{result_ok}
use Rattle.tile_types.specs.declared.key.Key.{Key}
use Rattle.tile_types.specs.declared.key.Kind.TheVariants.{Subtree}
use Rattle.tile_uri.specs.Addresses.{join}
use Rattle.tile_uri.specs.Templates.{fill}
use Rattle.tileset_schema.specs.Implicit.{ImplicitParts, HasLevels}
use Rattle.volumes.specs.declared.volume.Volume.{Volume}
use Rattle.volumes.specs.Cells.{split_quad, split_oct}
use Rattle.volumes.specs.Limits.{IsBoxInRange, error_limit}
use Rattle.implicit_walk.specs.declared.place.Place.{Place}
use Rattle.implicit_walk.specs.Places.{subtree_root}

-- the implicit part of a tile, the address of its document, and its volume and error, both moved
pub record RootParts : Type 0 where
  pub part : ImplicitParts
  pub base : List ℕ
  pub volume : Volume
  pub error : ℕ

-- the sizes within which each implicit root lies
pub record IsRoot (root : RootParts) : Type 0 where
  pub levels : HasLevels root.part.octree root.part.subtree_levels root.part.available_levels
  pub contents : length root.part.contents < 2 ^ 32
  pub volume : IsBoxInRange root.volume
  pub error : root.error ≤ error_limit

-- the cell of the root's box ("Subdivision Schemes")
abbrev pub volume_at : RootParts → Place → Volume
volume_at root at =
    if root.part.octree then split_oct root.volume at.level at.x at.y at.z
    else split_quad root.volume at.level at.x at.y

-- each level halves the error, in whole micrometres rounded down
abbrev pub error_at : RootParts → Place → ℕ
error_at root at = root.error / 2 ^ at.level

-- the address that a template names at a place, if it names one ("Template URIs")
abbrev pub address_at : RootParts → List ℕ → Place → Option (List ℕ)
address_at root template at =
    result_ok (join root.base (fill template at.level at.x at.y at.z))

-- the address of a tile's content, if its template names one
abbrev pub content_address : RootParts → Place → ℕ → Option (List ℕ)
content_address root at which =
    address_at root (slice_index_or root.part.contents which []) at

-- the key of the root's subtree at an address
abbrev pub key_of_subtree : ImplicitParts → List ℕ → Key
key_of_subtree part address = record {
  kind = Subtree part.octree part.subtree_levels (length part.contents);
  address = address;
}

-- the key of the subtree that a tile is in, if its template names an address
abbrev pub subtree_key : RootParts → Place → Option Key
subtree_key root at =
    option_map (key_of_subtree root.part)
    (address_at root root.part.subtrees (subtree_root root.part at))
