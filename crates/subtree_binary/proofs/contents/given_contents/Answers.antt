use Rattle.std.proofs.Common.{◌-◌, sym, ◌∙◌, take}
use Rattle.std.proofs.lemmas.Result.{err_from_is_err_and}
use Rattle.json_decimal.specs.Handles.{json_of, items_left}
use Rattle.subtree_binary.specs.Availability.{bits}
use Rattle.subtree_binary.specs.StorageSeen.{storage_seen}
use Rattle.subtree_binary.specs.declared.error.SubtreeField.TheVariants.{ContentAvailability}
use Rattle.subtree_binary.proofs.Chains.{behind_more, first_taken, first_fails, left_fails}
use Rattle.subtree_binary.proofs.contents.given_contents.Goals as goal

pub returns-in_err-bits : goal.returns-in_err-bits
returns-in_err-bits c =
    let p = err_from_is_err_and c.from_residual.result c.from_residual.ensures.1 in
    let f = bits (storage_seen c.args.storage.now) ContentAvailability c.args.count in
    let all = take c.args.contents (items_left c.args.entries) in
    let rest = take c.loop-left.left (items_left c.loop-left.rest) in
    let left = take (c.loop-left.left - 1) (items_left c.next.new.self) in
    let first = first_taken c.loop-left.left (items_left c.loop-left.rest)
    (items_left c.next.new.self) (json_of c.in-Some.value) c.loop-left-test.true
    c.in-Some.ensures in
    let e = c.in_err-bits.field-0.0 in
    rw (p.1, p.2)
    (left_fails f c.loop-left.given.items rest all e c.loop-left.invariant
    (first_fails _ _ f rest left (json_of c.in-Some.value) first e c.in_err-bits.ensures))

pub loop-left-preserved : goal.loop-left-preserved
loop-left-preserved c =
    let f = bits (storage_seen c.args.storage.now) ContentAvailability c.args.count in
    let rest = take c.loop-left.left (items_left c.loop-left.rest) in
    let left = take (c.loop-left.left - 1) (items_left c.next.new.self) in
    let first = first_taken c.loop-left.left (items_left c.loop-left.rest)
    (items_left c.next.new.self) (json_of c.in-Some.value) c.loop-left-test.true
    c.in-Some.ensures in
    sym
    (behind_more _ _ f rest left (json_of c.in-Some.value) first c.loop-left.given.items
    c.push.new.self.items c.in_ok-bits.field-0 c.in_ok-bits.ensures c.in_ok-push.ensures.items)
    ∙ c.loop-left.invariant
