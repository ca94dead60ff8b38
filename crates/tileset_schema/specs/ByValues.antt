-- What a tile says, by the values of its members.
use Rattle.std.specs.Prelude.{ℕ, Bool, ◌&&◌, Ok, List}
use Rattle.std.specs.Option.{is_none}
use Rattle.tileset_schema.specs.Causes.{Read, ◌>>=◌}
use Rattle.tileset_schema.specs.PartsBy.{parts_by}
use Rattle.tileset_schema.specs.Named.{Values}
use Rattle.tileset_schema.specs.Parts.{WrittenParts, bounding_volume, request_volume, geometric_error, own_refinement, own_transform, contents}

-- as `parts` says it of all members
abbrev pub parts_of : List ℕ → ℕ → Values → Read WrittenParts
parts_of base tile values =
    bounding_volume tile values.bounding_volume >>= λ volume.
    request_volume tile values.viewer_request_volume >>= λ request.
    geometric_error tile values.geometric_error >>= λ error.
    own_refinement tile values.refine >>= λ refine.
    own_transform tile values.transform >>= λ transform.
    contents base tile volume values.content values.contents values.implicit_tiling >>= λ own.
    Ok (parts_by volume request error refine transform own)

-- the tile has no request volume, no transform, no list of contents and no implicit tiling, as few
-- have one
abbrev pub are_common : Values → Bool
are_common values =
    is_none values.viewer_request_volume && is_none values.transform && is_none values.contents
    && is_none values.implicit_tiling
