use Rattle.std.proofs.Common.{◌≡◌, map, rules}
use Rattle.load_queue.specs.Entries.{shown_entry}
use Rattle.load_queue.proofs.Changes.{keyed_fresh}
use Rattle.load_queue.proofs.keyed_wants.KeyedWants.from_wants.Goals as goal

pub invariant_of-result : goal.invariant_of-result
invariant_of-result c =
    let entries : c.in_ok-entries.entries.items ≡ map shown_entry c.args.wants = search rules in
    keyed_fresh c.args.wants c.in_ok-entries.entries.items c.in_ok-places.places.keys entries
    c.in_ok-places.ensures c.requires
