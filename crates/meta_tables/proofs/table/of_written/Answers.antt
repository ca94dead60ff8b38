use Rattle.subtree_binary.specs.StorageSeen.{storage_seen}
use Rattle.meta_tables.specs.Checks.{checks}
use Rattle.meta_tables.specs.Columns.{column, owned}
use Rattle.meta_tables.specs.Seen.{columns_seen, members_seen}
use Rattle.std.proofs.Common.{◌≡◌, Ok}
use Rattle.meta_tables.proofs.Chains.{each_is}
use Rattle.meta_tables.proofs.Owned.{is_checked}
use Rattle.meta_tables.proofs.table.of_written.Goals as goal

pub invariant_of-result : goal.invariant_of-result
invariant_of-result c =
    let schema = c.args.schema.now in
    let storage = storage_seen c.args.storage.now in
    let count = c.args.own.count in
    each_is (column schema storage count) (λ column. checks schema count column ≡ Ok tt)
    (is_checked schema storage count)
    (owned (members_seen c.args.own.properties) c.properties.result.now)
    (columns_seen c.in_ok-columns.columns.items)
    c.in_ok-columns.ensures
