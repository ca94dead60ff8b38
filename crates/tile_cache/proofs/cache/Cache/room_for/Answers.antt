use Rattle.std.proofs.Common.{◌≡◌, ◌||◌, ◌∙◌, [], ap, sym, arith}
use Rattle.std.proofs.Common.{nat_lt, subst, reverse, true, false}
use Rattle.tile_cache.specs.Kept.{KeptEntry, resident_of, residents_in, pins_in}
use Rattle.tile_cache.specs.Residents.{bytes_in}
use Rattle.tile_cache.specs.Room.{is_held}
use Rattle.tile_cache.proofs.Pinning.{IsCounted, counted_all, counted_front}
use Rattle.tile_cache.proofs.Removing.{apart_is}
use Rattle.tile_cache.proofs.Walks.{next_is, room_found, walk_begins, walk_ends, walk_evicts}
use Rattle.tile_cache.proofs.Walks.{walk_passes, walk_stops}
use Rattle.tile_cache.proofs.cache.Cache.room_for.Goals as goal

pub loop-address-init : goal.loop-address-init
loop-address-init g c =
    let s = c.self.inside in
    let items : c.into_iter-address-iterator.result.iter ≡ s.entries.entries =
    ap (λ it. it.iter) c.into_iter-address-iterator.ensures.into_iter_gives
    ∙ c.rev-address-items.ensures.source ∙ c.iter.ensures.rest in
    rw (items, ← c.self.view_is, c.new.ensures) (record {
      counted = counted_all s.entries.entries c.len.ensures.valid.0;
      walks =
          walk_begins (is_held (pins_in s.entries.entries) (g.K.Keeping.keeps c.args.keep.now)) s.budget s.free
          c.args.length (residents_in s.entries.entries) c.self.invariant.within;
    })

pub evict-requires : goal.evict-requires
evict-requires g c =
    let es = c.loop-address.address-iterator.iter in
    let e : KeptEntry = (c.in-Some.address.now, c.in-Some.entry.now) in
    let within = c.loop-address.invariant.walks.within in
    let next = ap bytes_in (next_is es c.next.new.self.iter e c.in-Some.ensures.steps) in
    let budget = ap (λ s. s.budget) c.self.view_is in
    let fits = c.self.invariant.fits in
    omega arith

pub loop-address-preserved-then-not-stays : goal.loop-address-preserved-then-not-stays
loop-address-preserved-then-not-stays g c =
    let e : KeptEntry = (c.in-Some.address.now, c.in-Some.entry.now) in
    let pins = c.args.self.now.pins in
    let es = c.loop-address.address-iterator.iter in
    let before = c.next.new.self.iter in
    let room = c.loop-address.room in
    let later = c.evict.new.self in
    let next = c.in-Some.ensures.steps in
    let counted = counted_front pins before e
    (subst (IsCounted pins) next c.loop-address.invariant.counted) in
    let held : is_held pins (g.K.Keeping.keeps c.args.keep.now) e.0 ≡ false =
    ap (λ n. nat_lt 0 n || g.K.Keeping.keeps c.args.keep.now e.0) counted.1
    ∙ sym c.stays.ensures ∙ c.if-not-stays.true in
    record {
      counted = counted.0;
      walks =
          rw c.evict.ensures.free
          (walk_evicts (is_held pins (g.K.Keeping.keeps c.args.keep.now)) c.args.self.now.budget c.self.inside.free
          c.args.length c.args.self.now.residents (reverse (residents_in before)) (resident_of e)
          room.free room.evicted later.evicted room.is_whole later.is_whole
          (rw (next_is es before e next) at c.loop-address.invariant.walks)
          held c.if-length-room.false c.evict.ensures.evicted);
    }

pub loop-address-preserved : goal.loop-address-preserved
loop-address-preserved g c =
    let e : KeptEntry = (c.in-Some.address.now, c.in-Some.entry.now) in
    let pins = c.args.self.now.pins in
    let es = c.loop-address.address-iterator.iter in
    let before = c.next.new.self.iter in
    let room = c.loop-address.room in
    let next = c.in-Some.ensures.steps in
    let counted = counted_front pins before e
    (subst (IsCounted pins) next c.loop-address.invariant.counted) in
    let held : is_held pins (g.K.Keeping.keeps c.args.keep.now) e.0 ≡ true =
    ap (λ n. nat_lt 0 n || g.K.Keeping.keeps c.args.keep.now e.0) counted.1
    ∙ sym c.stays.ensures ∙ c.if-not-stays.false in
    record {
      counted = counted.0;
      walks =
          walk_passes (is_held pins (g.K.Keeping.keeps c.args.keep.now)) c.args.self.now.budget c.self.inside.free
          c.args.length c.args.self.now.residents (reverse (residents_in before)) (resident_of e)
          room.free room.evicted room.is_whole
          (rw (next_is es before e next) at c.loop-address.invariant.walks) held;
    }

pub returns-in-None : goal.returns-in-None
returns-in-None g c =
    let s = c.self.inside in
    let room = c.loop-address.room in
    let none : c.loop-address.address-iterator.iter ≡ [] = c.in-None.ensures.steps.0 in
    let walks = c.loop-address.invariant.walks in
    rw (← c.self.view_is)
    (room_found (is_held (pins_in s.entries.entries) (g.K.Keeping.keeps c.args.keep.now)) s.budget s.free
    c.args.length (residents_in s.entries.entries) room.free room.evicted room.is_whole
    c.self.invariant.within (apart_is s.entries.entries c.len.ensures.valid.0)
    (walk_ends (is_held (pins_in s.entries.entries) (g.K.Keeping.keeps c.args.keep.now)) s.budget s.free
    c.args.length (residents_in s.entries.entries) room.free room.evicted room.is_whole
    (rw (none, ← c.self.view_is) at walks)))

pub returns-then-length-room : goal.returns-then-length-room
returns-then-length-room g c =
    let s = c.self.inside in
    let room = c.loop-address.room in
    let es = c.loop-address.address-iterator.iter in
    let walks = c.loop-address.invariant.walks in
    rw (← c.self.view_is)
    (room_found (is_held (pins_in s.entries.entries) (g.K.Keeping.keeps c.args.keep.now)) s.budget s.free
    c.args.length (residents_in s.entries.entries) room.free room.evicted room.is_whole
    c.self.invariant.within (apart_is s.entries.entries c.len.ensures.valid.0)
    (walk_stops (is_held (pins_in s.entries.entries) (g.K.Keeping.keeps c.args.keep.now)) s.budget s.free
    c.args.length (residents_in s.entries.entries) (reverse (residents_in es)) room.free
    room.evicted room.is_whole (rw (← c.self.view_is) at walks) c.if-length-room.true))
