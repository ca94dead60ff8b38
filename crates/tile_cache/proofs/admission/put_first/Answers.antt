use Rattle.std.proofs.Common.{◌∙◌, ◌<◌, ◌^◌, ap, arith, length}
use Rattle.lru.specs.LruCache.{put_entries}
use Rattle.tile_cache.specs.Kept.{unpinned}
use Rattle.tile_cache.specs.Residents.{same_text}
use Rattle.tile_cache.proofs.Admitting.{put_first}
use Rattle.tile_cache.proofs.admission.put_first.Goals as goal

pub returns-clause-ok : goal.returns-clause-ok
returns-clause-ok c =
    let counted = c.len.ensures.len in
    let fits = c.len.ensures.fits in
    let few : length c.args.entries.now.entries < 2 ^ 63 = omega arith in
    ap (λ k. k.entries) c.in_ok-put.ensures.entries
    ∙ ap (λ address. put_entries same_text c.args.entries.now address (unpinned c.args.content))
    c.in_ok-copy.ensures.value
    ∙ put_first c.args.entries.now c.args.address.now c.args.content c.requires.unbounded
    few c.requires.new
