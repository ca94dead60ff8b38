use Rattle.std.proofs.Common.{◌≡◌, ◌∙◌, ◌∷◌, ◌+◌, ◌-◌, ap, sym, filter, arith, length}
use Rattle.std.proofs.Common.{false}
use Rattle.std.specs.List.{list_any}
use Rattle.tile_cache.specs.Kept.{KeptEntry, pins_in, resident, residents_in, unpinned}
use Rattle.tile_cache.specs.Residents.{bytes_in, same_text, without}
use Rattle.tile_cache.specs.Room.{evicted_by, is_held}
use Rattle.tile_cache.proofs.Admitting.{absent_stays, pins_then, residents_then}
use Rattle.tile_cache.proofs.Removing.{is_left}
use Rattle.tile_cache.proofs.cache.Cache.admit.Goals as goal

-- what was found is what the room rule says
found : (g : _) (c : goal.After-self-1 g) → c.room_for-room.result.evicted
    ≡ evicted_by (is_held (pins_in c.self.inside.entries.entries) (g.K.Keeping.keeps c.args.keep.now))
    c.self.inside.budget (residents_in c.self.inside.entries.entries) (length c.args.content)
found g c =
    rw (← c.self.view_is) at
    (c.room_for-room.ensures.evicted c.if-not-room.false
    ∙ ap (evicted_by (is_held c.args.self.now.pins (g.K.Keeping.keeps c.args.keep.now)) c.args.self.now.budget
    c.args.self.now.residents)
    (c.len-length-2.ensures.value ∙ ap length c.bytes.ensures))

-- the new one isn't among it
stays : (g : _) (c : goal.After-self-1 g)
    → list_any (same_text c.args.address.now) c.room_for-room.result.evicted ≡ false
stays g c =
    ap (list_any (same_text c.args.address.now)) (found g c)
    ∙ absent_stays c.self.inside.entries.entries
    (is_held (pins_in c.self.inside.entries.entries) (g.K.Keeping.keeps c.args.keep.now)) c.self.inside.budget
    (length c.args.content) c.args.address.now (rw (← c.self.view_is) at c.requires)

-- the new one, and those that stay
entries_then : (g : _) (c : goal.After-self-1 g) → c.remove_all.new.entries.entries
    ≡ filter (is_left c.room_for-room.result.evicted)
    ((c.args.address.now, unpinned c.args.content) ∷ c.self.inside.entries.entries)
entries_then g c =
    c.remove_all.ensures.entries
    ∙ ap (λ addresses. filter (is_left addresses) c.put_first.new.entries.entries)
    c.as_slice.ensures
    ∙ ap (filter (is_left c.room_for-room.result.evicted)) c.in_ok-put_first.ensures.ok

residents_are : (g : _) (c : goal.After-self-1 g) → residents_in c.remove_all.new.entries.entries
    ≡ resident c.args.address.now c.args.content
    ∷ without c.room_for-room.result.evicted (residents_in c.self.inside.entries.entries)
residents_are g c =
    ap residents_in (entries_then g c)
    ∙ residents_then c.self.inside.entries.entries c.args.address.now c.args.content
    c.room_for-room.result.evicted (stays g c)

free_then : (g : _) (c : goal.After-self-1 g)
    → c.room_for-room.result.free - c.len-length-2.result
    + bytes_in (residents_in c.remove_all.new.entries.entries) ≡ c.self.inside.budget
free_then g c =
    let bytes = ap bytes_in (residents_are g c) in
    let left = rw (← c.self.view_is) at (c.room_for-room.ensures.left c.if-not-room.false) in
    let size : c.len-length-2.result ≡ length c.args.content =
    c.len-length-2.ensures.value ∙ ap length c.bytes.ensures in
    let enough = c.if-room-length.false in
    omega arith

pub invariant_of-self-2 : goal.invariant_of-self-2
invariant_of-self-2 g c = record {
  unbounded =
      c.remove_all.ensures.cap ∙ c.in_ok-put_first.ensures.cap ∙ c.self.invariant.unbounded;
  within = free_then g c;
  fits = c.self.invariant.fits;
}

pub returns-clause-residents : goal.returns-clause-residents
returns-clause-residents g c = rw (← c.self.view_is) (residents_are g c)

pub returns-clause-within : goal.returns-clause-within
returns-clause-within g c = let free = free_then g c in omega arith

pub returns-clause-pins : goal.returns-clause-pins
returns-clause-pins g c =
    let es = c.self.inside.entries.entries in
    let keeps = g.K.Keeping.keeps c.args.keep.now in
    let new : KeptEntry = (c.args.address.now, unpinned c.args.content) in
    let entries = entries_then g c ∙ ap (λ out. filter (is_left out) (new ∷ es)) (found g c) in
    rw (← c.self.view_is, entries)
    (pins_then es keeps c.self.inside.budget (length c.args.content) c.args.address.now
    c.args.content c.len-length.ensures.valid.0
    (ap (list_any (same_text c.args.address.now)) (sym (found g c)) ∙ stays g c))
