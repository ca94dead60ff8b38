use Rattle.std.proofs.Common.{sym, ◌∙◌}
use Rattle.std.proofs.lemmas.Result.{err_from_is_err_and}
use Rattle.json_decimal.specs.Handles.{json_of, items_left}
use Rattle.subtree_binary.specs.Chunks.{buffer}
use Rattle.subtree_binary.proofs.Chains.{shorter, behind_more, fails_is, first_fails, left_fails}
use Rattle.subtree_binary.proofs.buffers.each_buffer.Goals as goal

pub returns-in_err-read_buffer : goal.returns-in_err-read_buffer
returns-in_err-read_buffer c =
    let p = err_from_is_err_and c.from_residual.result c.from_residual.ensures.1 in
    let e = c.in_err-read_buffer.field-0.0 in
    rw (p.1, p.2)
    (left_fails buffer c.loop-value.buffers.items (items_left c.loop-value.rest)
    (items_left c.args.items) e
    c.loop-value.invariant
    (first_fails _ _ buffer (items_left c.loop-value.rest) (items_left c.next.new.self)
    (json_of c.in-Some.value) c.in-Some.ensures e
    (fails_is e _ (sym c.in_err-read_buffer.ensures))))

pub loop-value-smaller : goal.loop-value-smaller
loop-value-smaller c = shorter (items_left c.loop-value.rest) (items_left c.next.new.self)
    (json_of c.in-Some.value) c.in-Some.ensures

pub loop-value-preserved : goal.loop-value-preserved
loop-value-preserved c =
    sym
    (behind_more _ _ buffer (items_left c.loop-value.rest) (items_left c.next.new.self)
    (json_of c.in-Some.value) c.in-Some.ensures c.loop-value.buffers.items c.push.new.self.items
    c.in_ok-read_buffer.field-0 (sym c.in_ok-read_buffer.ensures) c.in_ok-push.ensures.items)
    ∙ c.loop-value.invariant
