use Rattle.std.proofs.Common.{reverse}
use Rattle.tile_cache.specs.Kept.{residents_in}
use Rattle.tile_cache.specs.Room.{is_held}
use Rattle.tile_cache.proofs.Pinning.{IsCounted}
use Rattle.tile_cache.proofs.Walks.{Walks}
use Rattle.tile_cache.proofs.cache.Cache.room_for.Given as goal

-- what was found so far, with what the entries before the walk give, is what goes
abbrev pub invariant-loop-address : goal.invariant-loop-address
invariant-loop-address g l = record {
  counted : IsCounted l.fn.self.pins l.address-iterator.iter;
  walks : Walks (is_held l.fn.self.pins (g.K.Keeping.keeps l.keep)) l.fn.self.budget l.initial.room.free l.length
      l.fn.self.residents (reverse (residents_in l.address-iterator.iter)) l.room.free
      l.room.evicted l.room.is_whole;
}
