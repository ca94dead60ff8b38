use Rattle.std.proofs.Common.{◌≡◌, map, take}
use Rattle.std.specs.List.{AllByRecursion}
use Rattle.load_queue.specs.Entries.{IsWithin, score}
use Rattle.load_queue.proofs.ranked_queue.scores.Given as goal

abbrev pub invariant-loop-entry : goal.invariant-loop-entry
invariant-loop-entry g l = record {
  scores : l.scores.items ≡ map (score (g.R.Rank.order l.rank)) (take l.entry-index l.wants);
  within : AllByRecursion (IsWithin (g.R.Rank.order l.rank)) (take l.entry-index l.wants);
}
