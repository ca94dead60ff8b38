use Rattle.std.proofs.Common.{sym, subst, string_bytes}
use Rattle.tree_nodes.proofs.PlaceNames.{Upwards, upwards_more, written_more}
use Rattle.tree_nodes.proofs.names.write_name_over.Goals as goal

pub loop-node-preserved : goal.loop-node-preserved
loop-node-preserved c =
    let list = c.args.list.now in
    let n = c.index-node.result.now in
    subst (λ at. Upwards c.args.store.now list c.args.place at c.push.new.self.items)
    (sym c.from-at.ensures)
    (subst (Upwards c.args.store.now list c.args.place n.parent) (sym c.in_ok-push.ensures.items)
    (upwards_more c.args.store.now list c.args.place c.loop-node.at c.loop-node.path.items n
    c.requires.sound c.loop-node.invariant c.loop-node-test.ensures c.index-node.ensures))

pub loop-number-preserved : goal.loop-number-preserved
loop-number-preserved c =
    written_more _ (string_bytes c.loop-number.name) (string_bytes c.push_number.new.name)
    c.loop-number.path.items c.pop.new.self.items c.in-Some.number c.loop-number.invariant
    c.in-Some.ensures.items c.in_ok-push_number.ensures
