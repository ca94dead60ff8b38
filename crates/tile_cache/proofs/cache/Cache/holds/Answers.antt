use Rattle.std.proofs.Common.{◌∙◌}
use Rattle.tile_cache.proofs.Entries.{contains_is}
use Rattle.tile_cache.proofs.cache.Cache.holds.Goals as goal

pub returns : goal.returns
returns c =
    rw (← c.self.view_is)
    (c.contains.ensures ∙ contains_is c.self.inside.entries.entries c.args.address.now)
