use Rattle.std.proofs.Common.{◌≡◌, ◌∙◌, ap, length, arith}
use Rattle.std.proofs.lemmas.List.{with_items_is}
use Rattle.load_queue.specs.Trees.{node}
use Rattle.load_queue.proofs.Trees.{tree_built}
use Rattle.load_queue.proofs.least_ranks.LeastRanks.from_ranks.Goals as goal

pub returns : goal.returns
returns c =
    let first = c.push_leaves.new.nodes.items in
    let pushed = c.push_leaves-2.new.nodes in
    let many : length first ≡ length c.args.ranks.now =
    omega (arith, c.in_ok-push_leaves.ensures.len, ap length c.new-nodes.ensures.items) in
    rw
    (with_items_is pushed c.fill_inner.new.nodes
    (c.fill_inner.auto.nodes ∙ c.deref_mut.ensures.len))
    (tree_built c.args.ranks.now first pushed.items c.fill_inner.new.nodes many
    c.in_ok-push_leaves-2.ensures
    (c.fill_inner.auto.nodes ∙ ap length c.deref_mut.ensures.value)
    (λ q h. c.fill_inner.ensures.leaves q h ∙ ap (λ ns. node ns q) c.deref_mut.ensures.value)
    c.fill_inner.ensures.filled).1
