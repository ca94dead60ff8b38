use Rattle.std.proofs.Common.{◌∙◌, ◌+◌, ap}
use Rattle.tile_cache.specs.Kept.{residents_in}
use Rattle.tile_cache.specs.Residents.{bytes_in, same_text}
use Rattle.tile_cache.proofs.Budgets.{bytes-moved_up}
use Rattle.tile_cache.proofs.Entries.{moved_up_is}
use Rattle.tile_cache.proofs.Pinning.{same_when_promoted}
use Rattle.tile_cache.proofs.cache.Cache.touch.Goals as goal

pub invariant_of-self : goal.invariant_of-self
invariant_of-self c =
    let s = c.self.inside in
    let es = s.entries.entries in
    let a = c.args.address.now in
    rw c.promote.ensures.entries (record {
      unbounded = c.self.invariant.unbounded;
      fits = c.self.invariant.fits;
      within =
          ap (λ n. s.free + n)
          (ap bytes_in (moved_up_is es a c.len.ensures.valid.0)
          ∙ bytes-moved_up (residents_in es) a)
          ∙ c.self.invariant.within;
    })

pub returns-clause-residents : goal.returns-clause-residents
returns-clause-residents c =
    rw (← c.self.view_is, c.promote.ensures.entries)
    (moved_up_is c.self.inside.entries.entries c.args.address.now c.len.ensures.valid.0)

pub returns-clause-pins : goal.returns-clause-pins
returns-clause-pins c =
    rw (← c.self.view_is, c.promote.ensures.entries)
    (same_when_promoted c.self.inside.entries.entries (same_text c.args.address.now))
