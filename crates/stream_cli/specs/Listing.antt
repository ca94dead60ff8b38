-- The lines that list an expanded tree.
use Rattle.std.specs.Prelude.{ℕ, Option, Some, None, List, [], ◌∷◌, ◌++◌, map, codes, flat_map}
use Rattle.std.specs.Fmt.{decimal, signed_decimal}
use Rattle.fixed_geometry.specs.declared.point.Point.{Point}
use Rattle.volumes.specs.declared.volume.Volume.{Volume}
use Rattle.volumes.specs.declared.volume.Volume.TheVariants.{Oriented, Ball}
use Rattle.tile_types.specs.declared.refine.Refine.{Refine}
use Rattle.tile_types.specs.declared.refine.Refine.TheVariants.{Add, Replace}
use Rattle.expanded_tree.specs.Facts.{Facts}
use Rattle.expanded_tree.specs.Tree.{Tree, tile, pending}
use Rattle.plain_tree.specs.Preorder.{nodes_of}

abbrev pub refine_word : Refine → List ℕ
refine_word Add = codes "ADD"
refine_word Replace = codes "REPLACE"

-- `x,y,z`
abbrev pub point_text : Point → List ℕ
point_text p =
    signed_decimal p.x ++ (codes "," ++ signed_decimal p.y) ++ (codes "," ++ signed_decimal p.z)

-- each point behind a space
abbrev pub points_text : List Point → List ℕ
points_text points = flat_map (λ p. codes " " ++ point_text p) points

-- `box CENTRE AXIS AXIS AXIS` or `sphere CENTRE RADIUS`
abbrev pub volume_text : Volume → List ℕ
volume_text (Oriented centre axes) = codes "box" ++ points_text (centre ∷ axes)
volume_text (Ball centre radius) =
    codes "sphere" ++ points_text (centre ∷ []) ++ codes " " ++ signed_decimal radius

-- a tile's volume is always known
abbrev pub known_volume_text : Option Volume → List ℕ
known_volume_text None = []
known_volume_text (Some volume) = volume_text volume

-- what stands behind the name in the line of a tile: ` REFINE ERROR VOLUME` and a line feed
abbrev pub line_end : Facts → List ℕ
line_end facts =
    codes " " ++ refine_word facts.refine ++ codes " " ++ decimal facts.error ++ codes " "
    ++ known_volume_text facts.volume ++ codes "\n"

-- `tile NAME REFINE ERROR VOLUME`
unfoldable pub tile_line : List ℕ → Facts → List ℕ
tile_line name facts =
    codes "tile " ++ name ++ codes " " ++ refine_word facts.refine ++ codes " "
    ++ decimal facts.error ++ codes " " ++ known_volume_text facts.volume ++ codes "\n"

-- `content NAME ADDRESS`
unfoldable pub content_line : List ℕ → List ℕ → List ℕ
content_line name address = codes "content " ++ name ++ codes " " ++ address ++ codes "\n"

-- a tile's line and those of its own contents; nothing is printed of a pending node
abbrev pub lines_of : Tree → List (List ℕ)
lines_of (tile parts children) =
    tile_line parts.name parts.facts ∷ map (content_line parts.name) parts.contents
lines_of (pending name facts key) = []

-- the lines of all tiles in preorder
abbrev pub listing : Option Tree → List (List ℕ)
listing root = flat_map lines_of (nodes_of root)
