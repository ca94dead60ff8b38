use Rattle.std.proofs.Common.{arith}
use Rattle.plain_tree.proofs.Roots.{listed_all, listed_none, one_root, refused_rest, refused_root, within_all, within_none}
use Rattle.plain_tree.proofs.plain_list.list_nodes.Goals as goal

pub returns-in-Err-clause-refused : goal.returns-in-Err-clause-refused
returns-in-Err-clause-refused c =
    c.of.ensures c.args.limit _
    (refused_root c.args.store.now c.in-Ok.list c.in-Ok.ensures c.args.limit
    c.push_root.new.self c.in-Err.e c.in-Err.ensures.refused)

pub returns-then-len-eq0-clause-listed : goal.returns-then-len-eq0-clause-listed
returns-then-len-eq0-clause-listed c =
    listed_none c.args.store.now c.in-Ok.list c.in-Ok.ensures c.args.limit c.push_root.new.self
    c.in-Ok-push_root.ensures.grows _
    (omega (arith, c.if-len-eq0.true, c.len.ensures, c.push_root.new.self.nodes.ok.0))

pub returns-then-len-eq0-clause-within : goal.returns-then-len-eq0-clause-within
returns-then-len-eq0-clause-within c =
    within_none c.args.store.now c.in-Ok.list c.in-Ok.ensures c.args.limit c.push_root.new.self
    c.in-Ok-push_root.ensures.grows
    (omega (arith, c.if-len-eq0.true, c.len.ensures, c.push_root.new.self.nodes.ok.0))

pub grow-requires-clause-one : goal.grow-requires-clause-one
grow-requires-clause-one c =
    one_root c.args.store.now c.in-Ok.list c.in-Ok.ensures c.args.limit c.push_root.new.self
    c.in-Ok-push_root.ensures.grows
    (omega (arith, c.if-len-eq0.false, c.len.ensures, c.push_root.new.self.nodes.ok.0))

pub returns-in-Err-grow-clause-refused : goal.returns-in-Err-grow-clause-refused
returns-in-Err-grow-clause-refused c =
    c.of-in-Err-grow.ensures c.args.limit _
    (refused_rest c.args.store.now c.in-Ok.list c.in-Ok.ensures c.args.limit
    c.push_root.new.self c.in-Ok-push_root.ensures.grows
    (omega (arith, c.if-len-eq0.false, c.len.ensures, c.push_root.new.self.nodes.ok.0))
    c.in-Err-grow.e c.in-Err-grow.ensures.refused)

pub returns-in-Ok-grow-clause-listed : goal.returns-in-Ok-grow-clause-listed
returns-in-Ok-grow-clause-listed c =
    listed_all c.args.store.now c.in-Ok.list c.in-Ok.ensures c.args.limit c.push_root.new.self
    c.in-Ok-push_root.ensures.grows
    (omega (arith, c.if-len-eq0.false, c.len.ensures, c.push_root.new.self.nodes.ok.0))
    c.grow.new.list c.in-Ok-grow.bounds c.in-Ok-grow.ensures.grown

pub returns-in-Ok-grow-clause-within : goal.returns-in-Ok-grow-clause-within
returns-in-Ok-grow-clause-within c =
    within_all c.args.store.now c.in-Ok.list c.in-Ok.ensures c.args.limit c.push_root.new.self
    c.in-Ok-push_root.ensures.grows
    (omega (arith, c.if-len-eq0.false, c.len.ensures, c.push_root.new.self.nodes.ok.0))
    c.grow.new.list c.in-Ok-grow.bounds c.in-Ok-grow.ensures.grown
