use Rattle.std.proofs.Common.{◌≡◌, All, IsTrue, map, length}
use Rattle.doc_store.specs.Store.{docs}
use Rattle.plain_tree.specs.Standing.{standing_of}
use Rattle.tile_metadata.specs.Metadata.{first_cause}
use Rattle.tile_metadata.proofs.schemas.check_all.Given as goal

abbrev pub invariant-loop-node : goal.invariant-loop-node
invariant-loop-node l =
    All (λ n. IsTrue ((standing_of l.tree).is_valid n)) l.rest
    × (first_cause (docs l.store) (map (standing_of l.tree).node_tree l.rest)
    ≡ first_cause (docs l.store) (map (standing_of l.tree).node_tree l.nodes))

abbrev pub decreases-loop-node : goal.decreases-loop-node
decreases-loop-node l = length l.rest
