use Rattle.std.proofs.Common.{◌≡◌, ◌<◌, ◌∙◌, arith}
use Rattle.std.proofs.lemmas.List.{get_or_default}
use Rattle.load_queue.specs.Trees.{node}
use Rattle.load_queue.proofs.Trees.{nowhere, root_is_first}
use Rattle.load_queue.proofs.least_ranks.LeastRanks.first_least.Goals as goal

pub returns : goal.returns
returns c =
    let s = c.self.inside in
    let some : 0 < s.count = omega (arith, c.if-self-eq0.false) in
    let root : c.index.result.now ≡ node s.nodes.items 1 =
    c.index.ensures
    ∙ get_or_default s.nodes.items 1 c.index.result.now nowhere
    (omega (arith, c.self.invariant.len)) in
    rw (← c.self.view_is, root) (root_is_first s.count s.nodes.items c.self.invariant some)
