use Rattle.std.proofs.Common.{◌≡◌, take}
use Rattle.json_decimal.specs.Handles.{items_left}
use Rattle.subtree_binary.specs.Availability.{bits}
use Rattle.subtree_binary.specs.Causes.{each}
use Rattle.subtree_binary.specs.StorageSeen.{storage_seen}
use Rattle.subtree_binary.specs.declared.error.SubtreeField.TheVariants.{ContentAvailability}
use Rattle.subtree_binary.proofs.Chains.{behind}
use Rattle.subtree_binary.proofs.contents.given_contents.Given as goal

abbrev pub invariant-loop-left : goal.invariant-loop-left
invariant-loop-left l =
    behind l.given.items
    (each (bits (storage_seen l.storage) ContentAvailability l.count)
    (take l.left (items_left l.rest)))
    ≡ each (bits (storage_seen l.storage) ContentAvailability l.count)
    (take l.contents (items_left l.entries))

abbrev pub decreases-loop-left : goal.decreases-loop-left
decreases-loop-left l = l.left
