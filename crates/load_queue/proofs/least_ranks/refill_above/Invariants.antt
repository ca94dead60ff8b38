use Rattle.std.proofs.Common.{ℕ, ◌≡◌, ◌*◌, ◌<◌, ◌≤◌}
use Rattle.load_queue.specs.Trees.{AreFilledBut, node}
use Rattle.load_queue.proofs.least_ranks.refill_above.Given as goal

-- only the node above node i may not be filled
abbrev pub invariant-loop-i : goal.invariant-loop-i
invariant-loop-i l = record {
  some : 0 < l.i;
  within : l.i < 2 * l.count;
  leaves : (q : ℕ) → l.count ≤ q → node l.nodes q ≡ node l.initial.nodes q;
  filled : AreFilledBut l.count l.i l.nodes;
}

abbrev pub decreases-loop-i : goal.decreases-loop-i
decreases-loop-i l = l.i
