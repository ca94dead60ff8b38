-- Small trees, and some contents.
use Rattle.std.specs.Prelude.{ℕ, true, false, bytes_eq, None, List, [], ◌∷◌}
use Rattle.tile_types.specs.declared.refine.Refine.TheVariants.{Replace}
use Rattle.tile_types.specs.declared.key.Kind.TheVariants.{Tileset}
use Rattle.expanded_tree.specs.Facts.{Facts}
use Rattle.expanded_tree.specs.Tree.{Tree, explicit_tile, pending, no_trees, more_trees}
use Rattle.cut_core.specs.Cut.{Holdings}
use Rattle.cut_core.specs.Visits.{content_key}

-- without a volume, so that each view sees the tile, and with an external content, so that it wants
-- its children
abbrev pub wanting : Facts
wanting = record {
  volume = None;
  request = None;
  error = 0;
  refine = Replace;
  external = true;
}

abbrev pub first : List ℕ
first = 1 ∷ []

abbrev pub second : List ℕ
second = 2 ∷ []

abbrev pub nothing_held : Holdings
nothing_held = record { resident = λ x. false; absent = λ x. false }

abbrev pub resident_at : List ℕ → Holdings
resident_at address = record { resident = λ x. bytes_eq address x; absent = λ x. false }

abbrev pub absent_too : List ℕ → Holdings
absent_too address =
    record { resident = λ x. bytes_eq address x; absent = λ x. bytes_eq address x }

-- a tile with the first content above one child
abbrev pub above : Tree → Tree
above child = explicit_tile [] wanting (first ∷ []) (more_trees child no_trees)

-- a tile with the second content
abbrev pub lower_tile : Tree
lower_tile = explicit_tile [] wanting (second ∷ []) no_trees

-- a node that waits for a document
abbrev pub waiting : Tree
waiting = pending [] wanting (record { kind = Tileset; address = [] })

-- a node that waits for a content, as no expanded tree has
abbrev pub waiting_for_first : Tree
waiting_for_first = pending [] wanting (content_key first)
