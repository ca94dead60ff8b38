use Rattle.std.proofs.Common.{◌≡◌, ◌+◌, ◌-◌, ◌∙◌, ap, sym, refl, arith}
use Rattle.std.specs.Option.{option_map_or}
use Rattle.tile_cache.specs.declared.entry.Entry.{Entry}
use Rattle.tile_cache.specs.Kept.{pins_in}
use Rattle.tile_cache.specs.Pins.{times}
use Rattle.tile_cache.specs.Residents.{bytes_in}
use Rattle.tile_cache.proofs.Entries.{residents-set_value}
use Rattle.tile_cache.proofs.Pinning.{count_is, same_when_unpinned}
use Rattle.tile_cache.proofs.cache.Cache.unpin.Goals as goal
use Rattle.tile_cache.proofs.cache.Cache.unpin.Goals.{in-Some, in_default}

pub overflow_sub-entry : goal.overflow_sub-entry
overflow_sub-entry c =
    let es = c.self.inside.entries.entries in
    let a = c.args.address.now in
    let pinned = rw (← c.self.view_is) at c.requires.pinned in
    let count : times a (pins_in es) ≡ c.in-Some.entry.now.pins =
    count_is es a c.len.ensures.valid.0
    ∙ ap (λ o. option_map_or (λ v. v.pins) o 0) (sym c.in-Some.ensures.value) in
    omega arith

pub invariant_of-self : goal.invariant_of-self
invariant_of-self c = elim c.match-peek_mut.branch [
  | in-Some w ↦
      let es = c.self.inside.entries.entries in
      let v = w.in-Some.entry.now in
      let unpinned : Entry = record v { pins = v.pins - 1 } in
      rw w.self-inside-is (record {
        unbounded = c.self.invariant.unbounded;
        fits = c.self.invariant.fits;
        within =
            ap (λ rs. c.self.inside.free + bytes_in rs)
            (residents-set_value es c.args.address.now v unpinned
            (sym w.in-Some.ensures.value) refl)
            ∙ c.self.invariant.within;
      })
  | in_default w ↦ rw w.self-inside-is c.self.invariant
]

pub returns-clause-residents : goal.returns-clause-residents
returns-clause-residents c = elim c.match-peek_mut.branch [
  | in-Some w ↦
      let v = w.in-Some.entry.now in
      let unpinned : Entry = record v { pins = v.pins - 1 } in
      rw (w.self-inside-is, ← c.self.view_is)
      (residents-set_value c.self.inside.entries.entries c.args.address.now v unpinned
      (sym w.in-Some.ensures.value) refl)
  | in_default w ↦ rw (w.self-inside-is, ← c.self.view_is) refl
]

pub returns-clause-pins : goal.returns-clause-pins
returns-clause-pins c =
    let es = c.self.inside.entries.entries in
    let a = c.args.address.now in
    let pinned = rw (← c.self.view_is) at c.requires.pinned in
    let count = count_is es a c.len.ensures.valid.0 in
    elim c.match-peek_mut.branch [
      | in-Some w ↦
          let v = w.in-Some.entry.now in
          let unpinned : Entry = record v { pins = v.pins - 1 } in
          let own : times a (pins_in es) ≡ v.pins =
          count ∙ ap (λ o. option_map_or (λ v. v.pins) o 0) (sym w.in-Some.ensures.value) in
          rw (w.self-inside-is, ← c.self.view_is)
          (same_when_unpinned es a v unpinned (sym w.in-Some.ensures.value) (omega arith))
      | in_default w ↦
          let none : times a (pins_in es) ≡ 0 =
          count ∙ ap (λ o. option_map_or (λ v. v.pins) o 0) (sym w.in_default.ensures.value) in
          absurd (omega arith)
    ]
