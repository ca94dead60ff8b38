use Rattle.std.proofs.Common.{◌≡◌}
use Rattle.std.specs.Prelude.{is_some, option_copied}
use Rattle.tile_uri.specs.Templates.{is_template, parts_of, texts_behind}
use Rattle.tile_uri.proofs.Braces.{left}
use Rattle.tile_uri.proofs.part.is_template.Given as goal

abbrev pub invariant-loop-rest : goal.invariant-loop-rest
invariant-loop-rest l =
    is_some (parts_of l.octree (texts_behind (option_copied l.rest))) ≡ is_template l.octree l.text

abbrev pub decreases-loop-rest : goal.decreases-loop-rest
decreases-loop-rest l = left (option_copied l.rest)
