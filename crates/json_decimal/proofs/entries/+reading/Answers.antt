use Rattle.std.proofs.Common.{◌-◌, ◌∷◌, [], sym, arith}
use Rattle.std.proofs.lemmas.Result.{err_from_is_err_and}
use Rattle.json_decimal.specs.Scan.{skip}
use Rattle.json_decimal.specs.Reading.{behind_item}
use Rattle.json_decimal.specs.Nested.{opening, closing, nested_in}
use Rattle.json_decimal.specs.ReadsInto.{EndsIn}
use Rattle.json_decimal.specs.declared.scan.Behind.TheVariants as seens
use Rattle.json_decimal.proofs.Added.{ends_behind, ends_skip}
use Rattle.json_decimal.proofs.Behinds.{seen, no_behind}
use Rattle.json_decimal.proofs.Leaves.{refused}
use Rattle.json_decimal.proofs.NestedRead.{item_reads_into, item_fails, value_ends, fails, none_in, too_deep, begun, going, smaller, done, stopped, failed, behind_place, nested_is_read, empty_is_read}
use Rattle.json_decimal.proofs.entries.+reading.Goals as goal

pub item-value-requires : goal.item-value-requires
item-value-requires t c =
    let ends =
    value_ends c.args.nesting c.args.bytes.now c.args.spelled.now c.in_ok-at_value.at_value _ _
    c.requires.ends c.in_ok-at_value.ensures in
    (omega (arith, c.decreases), (c.requires.few, ends))

pub item-returns-in_err-at_value : goal.item-returns-in_err-at_value
item-returns-in_err-at_value t c =
    let p = err_from_is_err_and c.from_residual.result c.from_residual.ensures.1 in
    rw (p.1, p.2) (item_fails c.args.nesting c.args.depth c.args.bytes.now c.args.spelled.now _ _
    c.in_err-at_value.field-0.0 c.in_err-at_value.ensures)

pub item-returns : goal.item-returns
item-returns t c =
    item_reads_into c.args.nesting c.args.depth c.args.bytes.now c.args.spelled.now
    c.in_ok-at_value.at_value _ _ _ c.value.result
    c.in_ok-at_value.ensures c.value.ensures

pub nested-returns-in_err-check_nesting : goal.nested-returns-in_err-check_nesting
nested-returns-in_err-check_nesting t c =
    let p = err_from_is_err_and c.from_residual.result c.from_residual.ensures.1 in
    rw (p.1, p.2) (refused c.in_err-check_nesting.field-0.0
    (nested_in c.args.nesting c.args.depth c.args.inside.now) c.in_err-check_nesting.ensures.err.0
    (too_deep c.args.nesting c.args.depth c.args.inside.now c.in_err-check_nesting.ensures.err.1))

pub nested-returns-in-Some : goal.nested-returns-in-Some
nested-returns-in-Some t c =
    empty_is_read c.args.nesting c.args.depth c.args.bytes.now c.args.spelled.now c.args.inside.now
    c.args.entries.now.items c.in_ok-check_nesting.ensures.ok
    c.requires.ends c.requires.opens c.add.new.entries.items c.in-Some.rest.now
    (rw (← c.closing.ensures, ← c.skip_whitespace-rest.ensures) (sym c.in-Some.ensures))
    c.in_ok-add.ensures.ok

pub nested-loop-after-init : goal.nested-loop-after-init
nested-loop-after-init t c =
    let ends : EndsIn c.args.bytes.now c.args.inside.now =
    ends_behind c.args.bytes.now c.args.spelled.now (opening c.args.nesting ∷ []) c.args.inside.now
    c.requires.ends c.requires.opens in
    rw c.skip_whitespace-rest.ensures
    (begun c.args.nesting (c.args.depth - 1) c.args.bytes.now c.args.spelled.now c.args.inside.now
    c.args.entries.now.items c.add.new.entries.items
    (ends_skip c.args.bytes.now c.args.inside.now ends)
    (rw (← c.closing.ensures, ← c.skip_whitespace-rest.ensures) (sym c.in_default.ensures))
    c.in_ok-add.ensures.ok)

pub nested-returns-in_err-after : goal.nested-returns-in_err-after
nested-returns-in_err-after t c =
    let p =
    err_from_is_err_and c.from_residual-in_err-after.result
    c.from_residual-in_err-after.ensures.1 in
    rw (p.1, p.2) (fails c.args.nesting c.args.depth c.args.inside.now c.in_err-after.field-0.0
    c.in_ok-check_nesting.ensures.ok
    (failed c.args.nesting (c.args.depth - 1) c.args.bytes.now c.args.spelled.now c.args.inside.now
    c.args.entries.now.items c.in_err-after.field-0.0
    c.loop-after.entries.items c.loop-after.rest.now c.loop-after.invariant c.in_err-after.ensures))

pub nested-returns-in_err-next : goal.nested-returns-in_err-next
nested-returns-in_err-next t c =
    let p =
    err_from_is_err_and c.from_residual-in_err-next.result
    c.from_residual-in_err-next.ensures.1 in
    let none = rw c.closing-in-loop-after.ensures at c.in_err-next.ensures.1 in
    let unread =
    stopped c.args.nesting (c.args.depth - 1) c.args.bytes.now c.args.spelled.now
    c.args.inside.now c.args.entries.now.items
    c.loop-after.entries.items c.item.new.entries.items c.loop-after.rest.now
    c.in_ok-after.after.now
    c.loop-after.invariant c.in_ok-after.ensures
    (no_behind (behind_item (closing c.args.nesting) (skip c.in_ok-after.after.now)) none) in
    rw (p.1, p.2) (refused c.in_err-next.field-0.0
    (nested_in c.args.nesting c.args.depth c.args.inside.now) c.in_err-next.ensures.0
    (none_in c.args.nesting c.args.depth c.args.inside.now c.in_ok-check_nesting.ensures.ok unread))

pub nested-loop-after-smaller : goal.nested-loop-after-smaller
nested-loop-after-smaller t c =
    let told = rw c.closing-in-loop-after.ensures at c.in_ok-next.ensures in
    smaller c.args.nesting (c.args.depth - 1) c.args.bytes.now c.args.spelled.now c.args.inside.now
    c.args.entries.now.items
    c.loop-after.entries.items c.item.new.entries.items c.loop-after.rest.now
    c.in_ok-after.after.now
    c.in-Separator.more.now c.in_ok-after.ensures
    (seen (behind_item (closing c.args.nesting) (skip c.in_ok-after.after.now)) c.in_ok-next.next
    (seens.Separator c.in-Separator.more) told c.in-Separator.is)

pub nested-loop-after-preserved : goal.nested-loop-after-preserved
nested-loop-after-preserved t c =
    let told = rw c.closing-in-loop-after.ensures at c.in_ok-next.ensures in
    going c.args.nesting (c.args.depth - 1) c.args.bytes.now c.args.spelled.now c.args.inside.now
    c.args.entries.now.items
    c.loop-after.entries.items c.item.new.entries.items c.loop-after.rest.now
    c.in_ok-after.after.now
    c.in-Separator.more.now c.loop-after.invariant c.in_ok-after.ensures
    (seen (behind_item (closing c.args.nesting) (skip c.in_ok-after.after.now)) c.in_ok-next.next
    (seens.Separator c.in-Separator.more) told c.in-Separator.is)

pub nested-close-requires-clause-here : goal.nested-close-requires-clause-here
nested-close-requires-clause-here t c =
    let told = rw c.closing-in-loop-after.ensures at c.in_ok-next.ensures in
    let all =
    done c.args.nesting (c.args.depth - 1) c.args.bytes.now c.args.spelled.now c.args.inside.now
    c.args.entries.now.items
    c.loop-after.entries.items c.item.new.entries.items c.loop-after.rest.now
    c.in_ok-after.after.now
    c.in-Closing.more.now c.loop-after.invariant c.in_ok-after.ensures
    (seen (behind_item (closing c.args.nesting) (skip c.in_ok-after.after.now)) c.in_ok-next.next
    (seens.Closing c.in-Closing.more) told c.in-Closing.is) in
    omega (
      arith,
      c.len-place.ensures,
      c.args.entries.now.ok,
      behind_place c.args.nesting
          (c.args.depth - 1) c.args.bytes.now c.args.spelled.now c.args.inside.now
          c.args.entries.now.items c.item.new.entries.items c.in-Closing.more.now all,
    )

pub nested-returns-in-Closing : goal.nested-returns-in-Closing
nested-returns-in-Closing t c =
    let told = rw c.closing-in-loop-after.ensures at c.in_ok-next.ensures in
    let all =
    done c.args.nesting (c.args.depth - 1) c.args.bytes.now c.args.spelled.now c.args.inside.now
    c.args.entries.now.items
    c.loop-after.entries.items c.item.new.entries.items c.loop-after.rest.now
    c.in_ok-after.after.now
    c.in-Closing.more.now c.loop-after.invariant c.in_ok-after.ensures
    (seen (behind_item (closing c.args.nesting) (skip c.in_ok-after.after.now)) c.in_ok-next.next
    (seens.Closing c.in-Closing.more) told c.in-Closing.is) in
    nested_is_read c.args.nesting c.args.depth c.args.bytes.now c.args.spelled.now c.args.inside.now
    c.args.entries.now.items c.in_ok-check_nesting.ensures.ok
    c.requires.ends c.requires.opens c.item.new.entries.items c.close.new.entries.items
    c.len-place.result c.in-Closing.more.now
    (omega (arith, c.len-place.ensures, c.args.entries.now.ok)) all
    c.in_ok-close-in-Closing.ensures.ok
