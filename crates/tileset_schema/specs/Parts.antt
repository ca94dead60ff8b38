-- What a tile says of itself (OGC 22-025r4, "Tiles"). Each step is made where those before it found
-- no cause.
use Rattle.std.specs.Prelude.{ℕ, if◌then◌else◌, Option, Some, None, Result, Ok, Err, List, [], ◌∷◌, codes, bytes_eq, Bool}
use Rattle.std.specs.List.{list_all}
use Rattle.std.specs.Option.{is_some}
use Rattle.std.specs.Str.{str_to_ascii_lowercase}
use Rattle.json_decimal.specs.JsonValue.{JsonValue, last_of}
use Rattle.json_decimal.specs.Parts.{members_of, items_of, number_of, text_of}
use Rattle.fixed_geometry.specs.Decimal.{fixed}
use Rattle.fixed_geometry.specs.Maps.{Map, identity}
use Rattle.fixed_geometry.specs.Sixteen.{affine_of}
use Rattle.fixed_geometry.specs.declared.sixteen.AffineError.{AffineError}
use Rattle.fixed_geometry.specs.declared.sixteen.AffineError.TheVariants as affine
use Rattle.volumes.specs.declared.volume.Volume.{Volume}
use Rattle.tile_types.specs.declared.refine.Refine.{Refine}
use Rattle.tile_types.specs.declared.refine.Refine.TheVariants.{Add, Replace}
use Rattle.tile_uri.specs.declared.error.UriError.{UriError}
use Rattle.tile_uri.specs.Addresses.{join}
use Rattle.tileset_schema.specs.Causes.{Read, ◌>>=◌, or_cause, or_default, if_there, each}
use Rattle.tileset_schema.specs.Numbers.{numbers, clamped_error, read_from}
use Rattle.tileset_schema.specs.Volumes.{volume_of}
use Rattle.tileset_schema.specs.Implicit.{ImplicitParts, implicit_tiling}
use Rattle.tileset_schema.specs.declared.field.Field.TheVariants.{BoundingVolume, ViewerRequestVolume, GeometricError, Refine as RefineField, Transform, Content, Uri}
use Rattle.tileset_schema.specs.declared.error.DocumentError.TheVariants.{Shape, MissingField, OutOfRange, NotAffine, RefineWord, BothContents, BadAddress}

abbrev pub Members : Type 0
Members = List (List ℕ × JsonValue)

-- what a tile says, but for its children: volumes, error, refinement and transform are its own, not
-- yet under those of the tiles above; contents are addresses, those of external tilesets among
-- them. An implicit root has templates of contents in its implicit part, and no content of its own
pub record WrittenParts : Type 0 where
  pub volume : Volume
  pub request : Option Volume
  pub error : ℕ
  pub refine : Option Refine
  pub transform : Map
  pub contents : List (List ℕ)
  pub implicit : Option ImplicitParts

-- ---- errors, in whole micrometres (OGC 22-025r4, "Geometric error")

abbrev pub error_of : ℕ → JsonValue → Read ℕ
error_of tile v =
    or_cause (Shape GeometricError tile) (number_of v) >>= λ spelling.
    or_cause (OutOfRange GeometricError tile) (clamped_error (fixed spelling 6))

abbrev pub geometric_error : ℕ → Option JsonValue → Read ℕ
geometric_error tile value = or_cause (MissingField GeometricError tile) value >>= error_of tile

-- ---- refinement (OGC 22-025r4, "Refinement")

abbrev pub refinement_word : List ℕ → Option Refine
refinement_word word =
    if bytes_eq word (codes "add") then Some Add
    else if bytes_eq word (codes "replace") then Some Replace
    else None

-- ADD or REPLACE, in letters of either case
abbrev pub refinement_of : ℕ → JsonValue → Read Refine
refinement_of tile v =
    or_cause (Shape RefineField tile) (text_of v) >>= λ word.
    or_cause (RefineWord tile) (refinement_word (str_to_ascii_lowercase word))

-- ---- transforms (OGC 22-025r4, "Tile transforms")

abbrev pub map_or_cause : ℕ → Result Map AffineError → Read Map
map_or_cause tile (Ok map) = Ok map
map_or_cause tile (Err (affine.OutOfRange index)) = Err (OutOfRange Transform tile)
map_or_cause tile (Err affine.NotAffine) = Err (NotAffine tile)

-- a list of 16 numbers, each in range, that are an affine map
abbrev pub transform_of : ℕ → JsonValue → Read Map
transform_of tile v =
    or_cause (Shape Transform tile) (numbers 16 v) >>= λ ns.
    map_or_cause tile (affine_of (read_from 0 ns))

-- ---- contents (OGC 22-025r4, "Tile content")

-- none, the one of `content`, or those of `contents`
abbrev pub content_values : ℕ → Option JsonValue → Option JsonValue → Read (List JsonValue)
content_values tile None None = Ok []
content_values tile (Some v) None = Ok (v ∷ [])
content_values tile None (Some v) = or_cause (Shape Content tile) (items_of v)
content_values tile (Some v) (Some w) = Err (BothContents tile)

abbrev pub is_object : JsonValue → Bool
is_object v = is_some (members_of v)

-- each content is an object, before any is looked into
abbrev pub objects : ℕ → List JsonValue → Read (List JsonValue)
objects tile vs = if list_all is_object vs then Ok vs else Err (Shape Content tile)

abbrev pub uri_of : ℕ → JsonValue → Read (List ℕ)
uri_of tile v =
    or_cause (Shape Content tile) (members_of v) >>= λ members.
    or_cause (MissingField Uri tile) (last_of (codes "uri") members) >>= λ uri.
    or_cause (Shape Uri tile) (text_of uri)

abbrev pub address_or_cause : ℕ → Result (List ℕ) UriError → Read (List ℕ)
address_or_cause tile (Ok address) = Ok address
address_or_cause tile (Err e) = Err (BadAddress tile)

-- the address that a uri names below the document's own
abbrev pub address_of : List ℕ → ℕ → List ℕ → Read (List ℕ)
address_of base tile uri = address_or_cause tile (join base uri)

-- each content has a uri before any is read further
abbrev pub content_uris : ℕ → Option JsonValue → Option JsonValue → Read (List (List ℕ))
content_uris tile content several =
    content_values tile content several >>= objects tile >>= each (uri_of tile)

-- contents, or the implicit part in their place
pub record ContentParts : Type 0 where
  pub addresses : List (List ℕ)
  pub implicit : Option ImplicitParts

abbrev pub explicit : List (List ℕ) → ContentParts
explicit addresses = record { addresses = addresses; implicit = None }

abbrev pub implicit : ImplicitParts → ContentParts
implicit part = record { addresses = []; implicit = Some part }

abbrev pub addresses : List ℕ → ℕ → Option JsonValue → Option JsonValue → Read (List (List ℕ))
addresses base tile content several =
    content_uris tile content several >>= each (address_of base tile)

abbrev pub implicit_contents : ℕ → Volume → Option JsonValue → Option JsonValue → JsonValue
    → Read ImplicitParts
implicit_contents tile volume content several v =
    content_uris tile content several >>= λ uris. implicit_tiling tile volume uris v

-- the uris of a tile with `implicitTiling` are templates, and those of another are addresses
abbrev pub contents : List ℕ → ℕ → Volume → Option JsonValue → Option JsonValue
    → Option JsonValue → Read ContentParts
contents base tile volume content several None =
    addresses base tile content several >>= λ own. Ok (explicit own)
contents base tile volume content several (Some v) =
    implicit_contents tile volume content several v >>= λ part. Ok (implicit part)

-- ---- the steps of a tile, but for its children

abbrev pub bounding_volume : ℕ → Option JsonValue → Read Volume
bounding_volume tile value =
    or_cause (MissingField BoundingVolume tile) value >>= volume_of BoundingVolume tile

abbrev pub request_volume : ℕ → Option JsonValue → Read (Option Volume)
request_volume tile value = if_there (volume_of ViewerRequestVolume tile) value

abbrev pub own_refinement : ℕ → Option JsonValue → Read (Option Refine)
own_refinement tile value = if_there (refinement_of tile) value

-- the tile's own transform, the identity where there is none
abbrev pub own_transform : ℕ → Option JsonValue → Read Map
own_transform tile value = or_default identity (transform_of tile) value

-- what the tile of this number says, below this address; of several members of a name the last
-- counts
unfoldable pub parts : List ℕ → ℕ → Members → Read WrittenParts
parts base tile members =
    bounding_volume tile (last_of (codes "boundingVolume") members) >>= λ volume.
    request_volume tile (last_of (codes "viewerRequestVolume") members) >>= λ request.
    geometric_error tile (last_of (codes "geometricError") members) >>= λ error.
    own_refinement tile (last_of (codes "refine") members) >>= λ refine.
    own_transform tile (last_of (codes "transform") members) >>= λ transform.
    contents base tile volume (last_of (codes "content") members)
    (last_of (codes "contents") members) (last_of (codes "implicitTiling") members) >>= λ own.
    Ok (record {
      volume = volume;
      request = request;
      error = error;
      refine = refine;
      transform = transform;
      contents = own.addresses;
      implicit = own.implicit;
    })
