use Rattle.std.proofs.Common.{rules}
use Rattle.json_decimal.specs.Handles.{members_left}
use Rattle.subtree_binary.specs.StorageSeen.{storage_seen}
use Rattle.subtree_binary.proofs.Chunked.{bits_are}
use Rattle.subtree_binary.proofs.reading.bits_in.Goals as goal

pub returns : goal.returns
returns c =
    let v = c.in_ok-text.text in
    bits_are c.args.octree c.args.levels c.args.contents c.args.chunks.now v (search rules)
    (members_left c.in-Some.members) (search rules) (storage_seen c.in_ok-storage.storage)
    (search rules) c.all_bits.result (c.all_bits.ensures v)
