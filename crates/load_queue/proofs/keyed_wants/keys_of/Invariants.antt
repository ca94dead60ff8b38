use Rattle.std.proofs.Common.{◌≡◌, map, take}
use Rattle.load_queue.proofs.keyed_wants.keys_of.Given as goal

abbrev pub invariant-loop-want : goal.invariant-loop-want
invariant-loop-want l = l.keys.keys ≡ take l.want-index (map (λ want. want.key) l.wants)
