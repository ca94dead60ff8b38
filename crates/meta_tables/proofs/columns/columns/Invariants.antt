use Rattle.std.proofs.Common.{◌≡◌, length}
use Rattle.subtree_binary.specs.StorageSeen.{storage_seen}
use Rattle.meta_tables.specs.Causes.{each}
use Rattle.meta_tables.specs.Columns.{column, owned}
use Rattle.meta_tables.specs.Seen.{columns_seen, members_seen}
use Rattle.meta_tables.proofs.Chains.{behind}
use Rattle.meta_tables.proofs.columns.columns.Given as goal

abbrev pub invariant-loop-property : goal.invariant-loop-property
invariant-loop-property l =
    behind (columns_seen l.columns.items)
    (each (column l.schema (storage_seen l.storage) l.count) (owned (members_seen l.members) l.rest))
    ≡ each (column l.schema (storage_seen l.storage) l.count)
    (owned (members_seen l.members) l.properties)

abbrev pub decreases-loop-property : goal.decreases-loop-property
decreases-loop-property l = length l.rest
