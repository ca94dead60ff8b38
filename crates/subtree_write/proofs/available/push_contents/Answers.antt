use Rattle.std.proofs.Common.{◌∷◌, [], ◌∙◌, refl}
use Rattle.subtree_write.proofs.Adding.{counts, none_added, adds_first}
use Rattle.subtree_write.proofs.Pieces.{contents_are}
use Rattle.subtree_write.proofs.available.push_contents.Goals as goal

pub returns-in_default-clause-rows : goal.returns-in_default-clause-rows
returns-in_default-clause-rows c =
    none_added c.args.streams.now c.args.rows.now c.in_default.ensures.cases

pub returns-clause-json : goal.returns-clause-json
returns-clause-json c =
    let row = c.as_slice.result.now in
    let split = c.in-Some.ensures.cases.0 ∙ rw (← c.as_slice.ensures) refl in
    contents_are c.args.json.now.items c.push.new.json.items c.push_row.new.json.items
    c.push_further.new.json.items c.push-2.new.json.items _ _ c.args.rows.now row
    c.in-Some.more.now split
    (counts c.args.streams.now c.push_row.new.self (row ∷ []) c.in_ok-push_row.ensures.rows)
    c.in_ok-push.ensures c.in_ok-push_row.ensures.json c.in_ok-push_further.ensures.json
    c.in_ok-push-2.ensures

pub returns-clause-rows : goal.returns-clause-rows
returns-clause-rows c =
    let row = c.as_slice.result.now in
    let split = c.in-Some.ensures.cases.0 ∙ rw (← c.as_slice.ensures) refl in
    adds_first c.args.streams.now c.push_row.new.self c.push_further.new.streams c.args.rows.now
    row c.in-Some.more.now split c.in_ok-push_row.ensures.rows c.in_ok-push_further.ensures.rows
