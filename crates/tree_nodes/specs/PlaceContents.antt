-- The contents of the tile at a place, by its subtree.
use Rattle.std.specs.Prelude.{ℕ, List, length}
use Rattle.std.specs.List.{filter_map, range_with_len}
use Rattle.subtree_binary.specs.Subtrees.{SubtreeParts}
use Rattle.implicit_walk.specs.declared.place.Place.{Place}
use Rattle.implicit_walk.specs.Roots.{RootParts}
use Rattle.implicit_walk.specs.Presences.{content_in}

-- those of the first templates, so many
abbrev pub first_contents : RootParts → SubtreeParts → Place → ℕ → List (List ℕ)
first_contents root subtree at count =
    filter_map (content_in root subtree at) (range_with_len 0 count)

-- all of them
abbrev pub contents_in : RootParts → SubtreeParts → Place → List (List ℕ)
contents_in root subtree at = first_contents root subtree at (length root.part.contents)
