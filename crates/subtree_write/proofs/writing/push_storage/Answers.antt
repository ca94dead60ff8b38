use Rattle.std.proofs.Common.{◌≡◌, ◌≢◌, [], rules, length}
use Rattle.subtree_write.proofs.Pieces.{storage_is}
use Rattle.subtree_write.proofs.writing.push_storage.Goals as goal

pub returns : goal.returns
returns c =
    let bytes : c.len.result ≡ length c.args.streams.now.binary.items = search rules in
    let some : c.args.streams.now.views.items ≢ [] = search rules in
    storage_is c.args.streams.now.views.items (length c.args.streams.now.binary.items)
    c.args.json.now.items c.push.new.json.items
    c.push_number.new.json.items c.push-2.new.json.items c.push_views.new.json.items
    c.push-3.new.json.items some c.in_ok-push.ensures (rw bytes at c.in_ok-push_number.ensures)
    c.in_ok-push-2.ensures (rw c.as_slice.ensures.value at c.in_ok-push_views.ensures)
    c.in_ok-push-3.ensures
