-- The contents that were read of a tile.
use Rattle.std.specs.Prelude.{ℕ, List, []}
use Rattle.tileset_schema.specs.Firsts.{contents_by}
use Rattle.tileset_schema.specs.Parts.{ContentParts}
use Rattle.tileset_schema.specs.Seen.{part_seen}
use Rattle.tileset_schema.specs.declared.first_content.FirstContent.{FirstContent}
use Rattle.tileset_schema.specs.declared.contents.OwnContents.{OwnContents}

-- the addresses of the contents, where there is no further one
abbrev pub first_in : FirstContent → List (List ℕ)
first_in first = contents_by first.kind first.text []

-- the addresses of all contents
abbrev pub addresses_in : OwnContents → List (List ℕ)
addresses_in own = contents_by own.first.kind own.first.text own.more.items

-- these, or the implicit part in their place
abbrev pub contents_in : OwnContents → ContentParts
contents_in own = record { addresses = addresses_in own; implicit = part_seen own.implicit }
