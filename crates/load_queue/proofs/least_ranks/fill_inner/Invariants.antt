use Rattle.std.proofs.Common.{ℕ, ◌≡◌, ◌<◌, ◌≤◌}
use Rattle.load_queue.specs.Trees.{IsFilled, node}
use Rattle.load_queue.proofs.least_ranks.fill_inner.Given as goal

-- node i and those behind it are filled
abbrev pub invariant-loop-i : goal.invariant-loop-i
invariant-loop-i l = record {
  leaves : (q : ℕ) → l.count ≤ q → node l.nodes q ≡ node l.initial.nodes q;
  filled : (j : ℕ) → l.i ≤ j → j < l.count → IsFilled l.nodes j;
}
