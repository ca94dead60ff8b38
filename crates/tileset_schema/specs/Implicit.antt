-- Implicit tiling as a tile writes it (OGC 22-025r4, "Implicit Tiling").
use Rattle.std.specs.Prelude.{ℕ, ◌<◌, ◌≤◌, ℤ, pos, negsuc, nat_le, ◌&&◌, if◌then◌else◌, Bool, true, false}
use Rattle.std.specs.Prelude.{Option, Some, None, Result, Ok, Err, List, codes, bytes_eq}
use Rattle.std.specs.Option.{option_and_then}
use Rattle.json_decimal.specs.JsonValue.{JsonValue, last_of}
use Rattle.json_decimal.specs.Parts.{members_of, text_of}
use Rattle.json_decimal.specs.WholeNumbers.{integer}
use Rattle.avail_bits.specs.declared.limits.TheConstants.{QUADTREE_SUBTREE_LEVELS, OCTREE_SUBTREE_LEVELS}
use Rattle.volumes.specs.declared.volume.Volume.{Volume}
use Rattle.volumes.specs.declared.volume.Volume.TheVariants.{Oriented, Ball}
use Rattle.tile_uri.specs.Templates.{template_of}
use Rattle.tile_uri.specs.declared.error.UriError.{UriError}
use Rattle.tileset_schema.specs.Causes.{Read, ◌>>=◌, or_cause, each}
use Rattle.tileset_schema.specs.declared.limits.TheConstants.{AVAILABLE_LEVELS}
use Rattle.tileset_schema.specs.declared.field.Field.{Field}
use Rattle.tileset_schema.specs.declared.field.Field.TheVariants.{ImplicitTiling, Scheme, SubtreeLevels, AvailableLevels, Subtrees}
use Rattle.tileset_schema.specs.declared.error.DocumentError.TheVariants.{Shape, MissingField, BadAddress, ImplicitLimits, ImplicitSphere}

-- what an implicit root says of the tiles below it: an octree or a quadtree, the levels of each
-- subtree and of the whole, and the templates of subtrees and of contents
pub record ImplicitParts : Type 0 where
  pub octree : Bool
  pub subtree_levels : ℕ
  pub available_levels : ℕ
  pub subtrees : List ℕ
  pub contents : List (List ℕ)

-- the most levels of a subtree
abbrev pub subtree_limit : Bool → ℕ
subtree_limit octree = if octree then OCTREE_SUBTREE_LEVELS else QUADTREE_SUBTREE_LEVELS

-- the levels are within the limits
pub record HasLevels (octree : Bool) (subtree_levels available_levels : ℕ) : Type 0 where
  pub some_subtree : 0 < subtree_levels
  pub subtree : subtree_levels ≤ subtree_limit octree
  pub some_available : 0 < available_levels
  pub available : available_levels ≤ AVAILABLE_LEVELS

-- ---- the subdivision ("Subdivision Schemes")

-- whether the scheme is an octree, where it is one of the two
abbrev pub is_octree : List ℕ → Option Bool
is_octree word =
    if bytes_eq word (codes "QUADTREE") then Some false
    else if bytes_eq word (codes "OCTREE") then Some true
    else None

abbrev pub scheme : ℕ → Option JsonValue → Read Bool
scheme tile value =
    or_cause (MissingField Scheme tile) value >>= λ v.
    or_cause (Shape Scheme tile) (option_and_then is_octree (text_of v))

-- ---- levels

-- a whole number from 1 to the most
abbrev pub from_one : ℕ → ℤ → Option ℕ
from_one most (pos n) = if nat_le 1 n && nat_le n most then Some n else None
from_one most (negsuc n) = None

abbrev pub levels : ℕ → Field → ℕ → Option JsonValue → Read ℕ
levels most field tile value =
    or_cause (MissingField field tile) value >>= λ v.
    or_cause (Shape field tile) (integer v) >>= λ n.
    or_cause (ImplicitLimits tile) (from_one most n)

-- ---- templates ("Template URIs")

abbrev pub template_or_cause : ℕ → Result (List ℕ) UriError → Read (List ℕ)
template_or_cause tile (Ok text) = Ok text
template_or_cause tile (Err e) = Err (BadAddress tile)

abbrev pub template : Bool → ℕ → List ℕ → Read (List ℕ)
template octree tile uri = template_or_cause tile (template_of octree uri)

-- an object with a text `uri`
abbrev pub subtree_uri : ℕ → Option JsonValue → Read (List ℕ)
subtree_uri tile value =
    or_cause (MissingField Subtrees tile) value >>= λ v.
    or_cause (Shape Subtrees tile) (members_of v) >>= λ own.
    or_cause (Shape Subtrees tile) (option_and_then text_of (last_of (codes "uri") own))

-- ---- the value of `implicitTiling`

pub record Subdivision : Type 0 where
  pub octree : Bool
  pub subtree_levels : ℕ
  pub available_levels : ℕ
  pub subtrees : List ℕ

abbrev pub subdivision : ℕ → JsonValue → Read Subdivision
subdivision tile v =
    or_cause (Shape ImplicitTiling tile) (members_of v) >>= λ members.
    scheme tile (last_of (codes "subdivisionScheme") members) >>= λ octree.
    levels (subtree_limit octree) SubtreeLevels tile
    (last_of (codes "subtreeLevels") members) >>= λ own.
    levels AVAILABLE_LEVELS AvailableLevels tile
    (last_of (codes "availableLevels") members) >>= λ available.
    subtree_uri tile (last_of (codes "subtrees") members) >>= λ uri.
    template octree tile uri >>= λ subtrees.
    Ok (record {
      octree = octree;
      subtree_levels = own;
      available_levels = available;
      subtrees = subtrees;
    })

-- a sphere isn't divided into cells
abbrev pub box_only : ℕ → Volume → Read (Unit {0})
box_only tile (Oriented centre axes) = Ok tt
box_only tile (Ball centre radius) = Err (ImplicitSphere tile)

abbrev pub with_contents : Subdivision → List (List ℕ) → ImplicitParts
with_contents own contents = record {
  octree = own.octree;
  subtree_levels = own.subtree_levels;
  available_levels = own.available_levels;
  subtrees = own.subtrees;
  contents = contents;
}

-- of a tile of this volume, whose contents have these uris
abbrev pub implicit_tiling : ℕ → Volume → List (List ℕ) → JsonValue → Read ImplicitParts
implicit_tiling tile volume uris v =
    subdivision tile v >>= λ own.
    each (template own.octree tile) uris >>= λ contents.
    box_only tile volume >>= λ u.
    Ok (with_contents own contents)
