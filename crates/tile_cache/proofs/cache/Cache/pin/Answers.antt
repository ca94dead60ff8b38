use Rattle.std.proofs.Common.{◌≤◌, ◌+◌, ◌∙◌, ap, sym, refl, arith, true≢false, is_some}
use Rattle.tile_cache.specs.declared.entry.Entry.{Entry}
use Rattle.tile_cache.specs.Kept.{pins_in}
use Rattle.tile_cache.specs.Pins.{times}
use Rattle.tile_cache.specs.Residents.{bytes_in}
use Rattle.tile_cache.proofs.Entries.{contains_is, residents-set_value}
use Rattle.tile_cache.proofs.Pinning.{at_most, same_when_pinned}
use Rattle.tile_cache.proofs.cache.Cache.pin.Goals as goal
use Rattle.tile_cache.proofs.cache.Cache.pin.Goals.{in-Some, in_default}

pub overflow_add-entry : goal.overflow_add-entry
overflow_add-entry c =
    let es = c.self.inside.entries.entries in
    let limit = rw (← c.self.view_is) at c.requires.limit in
    let most : c.in-Some.entry.now.pins ≤ times c.args.address.now (pins_in es) =
    at_most es c.args.address.now c.in-Some.entry.now (sym c.in-Some.ensures.value) in
    omega arith

pub invariant_of-self : goal.invariant_of-self
invariant_of-self c = elim c.match-peek_mut.branch [
  | in-Some w ↦
      let es = c.self.inside.entries.entries in
      let v = w.in-Some.entry.now in
      let pinned : Entry = record v { pins = v.pins + 1 } in
      rw w.self-inside-is (record {
        unbounded = c.self.invariant.unbounded;
        fits = c.self.invariant.fits;
        within =
            ap (λ rs. c.self.inside.free + bytes_in rs)
            (residents-set_value es c.args.address.now v pinned (sym w.in-Some.ensures.value) refl)
            ∙ c.self.invariant.within;
      })
  | in_default w ↦ rw w.self-inside-is c.self.invariant
]

pub returns-clause-residents : goal.returns-clause-residents
returns-clause-residents c = elim c.match-peek_mut.branch [
  | in-Some w ↦
      let v = w.in-Some.entry.now in
      let pinned : Entry = record v { pins = v.pins + 1 } in
      rw (w.self-inside-is, ← c.self.view_is)
      (residents-set_value c.self.inside.entries.entries c.args.address.now v pinned
      (sym w.in-Some.ensures.value) refl)
  | in_default w ↦ rw (w.self-inside-is, ← c.self.view_is) refl
]

pub returns-clause-pins : goal.returns-clause-pins
returns-clause-pins c = elim c.match-peek_mut.branch [
  | in-Some w ↦
      let v = w.in-Some.entry.now in
      let pinned : Entry = record v { pins = v.pins + 1 } in
      rw (w.self-inside-is, ← c.self.view_is)
      (same_when_pinned c.self.inside.entries.entries c.args.address.now v pinned
      (sym w.in-Some.ensures.value) refl)
  | in_default w ↦
      let es = c.self.inside.entries.entries in
      let here = rw (← c.self.view_is) at c.requires.resident in
      absurd (true≢false (sym here ∙ sym (contains_is es c.args.address.now)
      ∙ ap is_some (sym w.in_default.ensures.value)))
]
