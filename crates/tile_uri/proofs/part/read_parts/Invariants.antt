use Rattle.std.proofs.Common.{◌≡◌}
use Rattle.std.specs.Prelude.{option_copied}
use Rattle.tile_uri.specs.Templates.{parts_of, texts_behind}
use Rattle.tile_uri.proofs.Braces.{left, with_parts}
use Rattle.tile_uri.proofs.part.read_parts.Given as goal

abbrev pub invariant-loop-rest : goal.invariant-loop-rest
invariant-loop-rest l =
    with_parts l.parts.items (parts_of l.octree (texts_behind (option_copied l.rest)))
    ≡ parts_of l.octree (texts_behind (option_copied l.behind))

abbrev pub decreases-loop-rest : goal.decreases-loop-rest
decreases-loop-rest l = left (option_copied l.rest)
