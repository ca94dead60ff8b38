-- What is kept of a tile beside its error and its first content.
use Rattle.std.specs.Prelude.{◌≡◌, ℕ, Option, None, List, []}
use Rattle.fixed_geometry.specs.Maps.{Map}
use Rattle.volumes.specs.declared.volume.Volume.{Volume}
use Rattle.volumes.specs.declared.volume.Volume.TheVariants as volumes
use Rattle.tileset_schema.specs.Aligned.{aligned_axes}
use Rattle.tileset_schema.specs.Implicit.{ImplicitParts}
use Rattle.tileset_schema.specs.Seen.{part_seen}
use Rattle.tileset_schema.specs.declared.rest.Marks.{Marks}
use Rattle.tileset_schema.specs.declared.rest.Rest.{Rest}
use Rattle.tileset_schema.specs.declared.rest.Rest.TheVariants.{Ball, Aligned, Oriented, Rare}

abbrev pub marks : Rest → Marks
marks (Ball m n centre radius) = m
marks (Aligned m n centre lengths) = m
marks (Oriented m n volume) = m
marks (Rare m n rare) = m

abbrev pub size : Rest → ℕ
size (Ball m n centre radius) = n
size (Aligned m n centre lengths) = n
size (Oriented m n volume) = n
size (Rare m n rare) = n

abbrev pub with_size : Rest → ℕ → Rest
with_size (Ball m n centre radius) count = Ball m count centre radius
with_size (Aligned m n centre lengths) count = Aligned m count centre lengths
with_size (Oriented m n volume) count = Oriented m count volume
with_size (Rare m n rare) count = Rare m count rare

abbrev pub volume : Rest → Volume
volume (Ball m n centre radius) = volumes.Ball centre radius
volume (Aligned m n centre lengths) = volumes.Oriented centre (aligned_axes lengths)
volume (Oriented m n own) = own.value
volume (Rare m n rare) = rare.value.volume

abbrev pub request : Rest → Option Volume
request (Ball m n centre radius) = None
request (Aligned m n centre lengths) = None
request (Oriented m n own) = None
request (Rare m n rare) = rare.value.request

-- the tile's own transform, where it has one
abbrev pub transform : Rest → Option Map
transform (Ball m n centre radius) = None
transform (Aligned m n centre lengths) = None
transform (Oriented m n own) = None
transform (Rare m n rare) = rare.value.transform

-- the addresses of the contents from the second on
abbrev pub more : Rest → List (List ℕ)
more (Ball m n centre radius) = []
more (Aligned m n centre lengths) = []
more (Oriented m n own) = []
more (Rare m n rare) = rare.value.more.items

-- what the tile says of the tiles below it, where it is an implicit root
abbrev pub implicit : Rest → Option ImplicitParts
implicit (Ball m n centre radius) = None
implicit (Aligned m n centre lengths) = None
implicit (Oriented m n own) = None
implicit (Rare m n rare) = part_seen rare.value.implicit

-- the rest of a tile without children, with these marks and in this volume, that says nothing rare
pub record IsCommon (m : Marks) (v : Volume) (rest : Rest) : Type 0 where
  pub marks : marks rest ≡ m
  pub size : size rest ≡ 1
  pub volume : volume rest ≡ v
  pub request : request rest ≡ None
  pub transform : transform rest ≡ None
  pub more : more rest ≡ []
  pub implicit : implicit rest ≡ None
