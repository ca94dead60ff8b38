use Rattle.std.proofs.Common.{◌∷◌, [], ap, length}
use Rattle.subtree_write.proofs.Adding.{counts_all, adds_then}
use Rattle.subtree_write.proofs.Pieces.{available_is}
use Rattle.subtree_write.proofs.available.push_available.Goals as goal

pub returns-clause-json : goal.returns-clause-json
returns-clause-json c =
    let spec = c.args.spec.now in
    let old = c.args.streams.now in
    let one = rw c.as_slice.ensures at c.in_ok-push_row.ensures.rows in
    let two = rw c.as_slice-2.ensures at c.in_ok-push_contents.ensures.rows in
    let both = adds_then old c.push_row.new.self c.push_contents.new.streams (spec.tiles ∷ [])
    spec.contents one two in
    let none = ap length c.requires in
    available_is spec c.args.json.now.items c.push.new.json.items c.push_row.new.json.items
    c.push_contents.new.json.items c.push-2.new.json.items c.push_row-2.new.json.items
    (length c.push_row.new.self.views.items) (length c.push_contents.new.streams.views.items)
    (counts_all old c.push_row.new.self (spec.tiles ∷ []) c.requires one)
    (counts_all old c.push_contents.new.streams (spec.tiles ∷ spec.contents) c.requires both)
    c.in_ok-push.ensures
    (rw (c.as_slice.ensures, none) at c.in_ok-push_row.ensures.json)
    (rw c.as_slice-2.ensures at c.in_ok-push_contents.ensures.json) c.in_ok-push-2.ensures
    (rw c.as_slice-3.ensures at c.in_ok-push_row-2.ensures.json)

pub returns-clause-rows : goal.returns-clause-rows
returns-clause-rows c =
    let spec = c.args.spec.now in
    let old = c.args.streams.now in
    let one = rw c.as_slice.ensures at c.in_ok-push_row.ensures.rows in
    let two = rw c.as_slice-2.ensures at c.in_ok-push_contents.ensures.rows in
    let three = rw c.as_slice-3.ensures at c.in_ok-push_row-2.ensures.rows in
    let both = adds_then old c.push_row.new.self c.push_contents.new.streams (spec.tiles ∷ [])
    spec.contents one two in
    adds_then old c.push_contents.new.streams c.push_row-2.new.self (spec.tiles ∷ spec.contents)
    (spec.children ∷ []) both three
