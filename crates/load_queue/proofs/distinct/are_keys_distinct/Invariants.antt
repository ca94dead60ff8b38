use Rattle.std.proofs.Common.{◌≡◌, map, take}
use Rattle.std.specs.List.{IsDistinct}
use Rattle.tile_types.specs.Keys.{same_key}
use Rattle.load_queue.proofs.distinct.are_keys_distinct.Given as goal

-- the keys so far are distinct
abbrev pub invariant-loop-want : goal.invariant-loop-want
invariant-loop-want l = record {
  keys : map (λ key. key.now) l.seen.keys ≡ take l.want-index (map (λ want. want.key) l.wants);
  apart : IsDistinct same_key (map (λ key. key.now) l.seen.keys);
}
