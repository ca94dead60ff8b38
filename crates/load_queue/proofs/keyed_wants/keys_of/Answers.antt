use Rattle.std.proofs.Common.{◌∙◌, map}
use Rattle.load_queue.proofs.Keys.{inserted_on, next_key, next_within}
use Rattle.load_queue.proofs.keyed_wants.keys_of.Goals as goal

pub loop-want-preserved : goal.loop-want-preserved
loop-want-preserved c =
    let ws = c.args.wants.now in
    let items = c.as_slice-want-items.result.now in
    let i = c.loop-want.want-index in
    let w = c.want-item.result in
    let k = c.in_ok-copy.field-0 in
    c.in_ok-insert.ensures.keys
    ∙ inserted_on (map (λ w. w.key) ws) i w.key c.loop-want.keys.keys k
    (next_within ws items i c.as_slice-want-items.ensures c.loop-want-test.true)
    c.loop-want.invariant c.requires
    (next_key ws items i w k c.as_slice-want-items.ensures c.want-item.is
    c.in_ok-copy.ensures.value)
