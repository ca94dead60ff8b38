use Rattle.std.proofs.Common.{[], ◌∷◌, ◌++◌, if◌then◌else◌, ap, drop, ◌∙◌}
use Rattle.std.specs.Fmt.{decimal}
use Rattle.tree_nodes.proofs.PlaceEnds.{place_parts}
use Rattle.tree_nodes.proofs.place_name.place_at.Goals as goal

pub returns-clause-written : goal.returns-clause-written
returns-clause-written c =
    let at = c.args.at in
    place_parts (decimal at.level) (decimal at.x) (decimal at.y)
    (if c.args.octree then 46 ∷ decimal at.z else []) _ _ _ _
    c.place_depth-start.ensures.written c.place_number-start.ensures.written
    c.place_number-start-2.ensures.written (c.place_number.ensures.written
    ∙ ap (λ n. 33 ∷ (decimal n ++ drop c.place_number-start-2.result c.place_number-start-2.new.bytes)) c.from.ensures)
