use Rattle.std.proofs.Common.{◌∙◌, ap, sym, is_some}
use Rattle.std.specs.Option.{option_map_or}
use Rattle.tile_cache.proofs.Entries.{contains_is}
use Rattle.tile_cache.proofs.Pinning.{count_is}
use Rattle.tile_cache.proofs.cache.Cache.pin_count.Goals as goal

pub returns-in-Some-clause-count : goal.returns-in-Some-clause-count
returns-in-Some-clause-count c =
    let es = c.self.inside.entries.entries in
    let a = c.args.address.now in
    rw (← c.self.view_is)
    (ap (λ o. option_map_or (λ v. v.pins) o 0) c.in-Some.ensures
    ∙ sym (count_is es a c.len.ensures.valid.0))

pub returns-in-Some-clause-resident : goal.returns-in-Some-clause-resident
returns-in-Some-clause-resident c =
    let es = c.self.inside.entries.entries in
    let a = c.args.address.now in
    rw (← c.self.view_is)
    (λ _. sym (contains_is es a) ∙ ap (λ o. is_some o) (sym c.in-Some.ensures))

pub returns-in-None-clause-count : goal.returns-in-None-clause-count
returns-in-None-clause-count c =
    let es = c.self.inside.entries.entries in
    let a = c.args.address.now in
    rw (← c.self.view_is)
    (ap (λ o. option_map_or (λ v. v.pins) o 0) c.in-None.ensures
    ∙ sym (count_is es a c.len.ensures.valid.0))
