use Rattle.std.proofs.Common.{ℕ, ◌≡◌, ◌+◌, ◌<◌, length, get_or}
use Rattle.load_queue.specs.Trees.{node}
use Rattle.load_queue.proofs.least_ranks.push_leaves.Given as goal

abbrev pub invariant-loop-place : goal.invariant-loop-place
invariant-loop-place l = record {
  len : length l.nodes.items ≡ length l.fn.nodes.items + l.place;
  leaves : (q : ℕ) → q < l.place → node l.nodes.items (length l.fn.nodes.items + q)
      ≡ record { rank = get_or l.ranks q 0; place = q };
}
