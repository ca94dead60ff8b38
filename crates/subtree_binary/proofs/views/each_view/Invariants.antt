use Rattle.std.proofs.Common.{◌≡◌, length}
use Rattle.json_decimal.specs.Handles.{items_left}
use Rattle.subtree_binary.specs.Causes.{each}
use Rattle.subtree_binary.specs.Chunks.{buffer_view}
use Rattle.subtree_binary.proofs.Chains.{behind}
use Rattle.subtree_binary.proofs.views.each_view.Given as goal

abbrev pub invariant-loop-value : goal.invariant-loop-value
invariant-loop-value l =
    behind l.views.items (each buffer_view (items_left l.rest)) ≡ each buffer_view (items_left l.items)

abbrev pub decreases-loop-value : goal.decreases-loop-value
decreases-loop-value l = length (items_left l.rest)
