use Rattle.std.proofs.Common.{◌∙◌, ◌+◌, ap, length}
use Rattle.std.specs.Vec.{with_item}
use Rattle.std.proofs.lemmas.List.{length-set, with_items_is}
use Rattle.load_queue.specs.declared.rank_at.RankAt.{RankAt}
use Rattle.load_queue.specs.Trees.{node}
use Rattle.load_queue.proofs.Trees.{ranks_set}
use Rattle.load_queue.proofs.least_ranks.LeastRanks.set.Goals as goal

pub returns : goal.returns
returns c =
    let s = c.self.inside in
    let leaf = s.count + c.args.place in
    let v : RankAt = record { rank = c.args.rank; place = c.args.place } in
    rw (
      with_items_is (with_item s.nodes leaf v) c.refill_above.new.nodes
          (c.refill_above.auto.nodes ∙ c.deref_mut.ensures.len),
      ← c.self.view_is,
    )
    (ranks_set s.count c.args.place c.args.rank s.nodes.items c.refill_above.new.nodes
    c.self.invariant.len
    (c.refill_above.auto.nodes ∙ ap length c.deref_mut.ensures.value
    ∙ length-set s.nodes.items leaf v)
    (λ q h. c.refill_above.ensures.leaves q h ∙ ap (λ ns. node ns q) c.deref_mut.ensures.value))
