use Rattle.std.proofs.Common.{◌<◌, rules, length, arith}
use Rattle.plain_tree.proofs.Tops.{a_root, no_root}
use Rattle.plain_tree.proofs.tree.PlainTreeTileTree.top.Goals as goal

pub returns-then-len-eq0-clause-root : goal.returns-then-len-eq0-clause-root
returns-then-len-eq0-clause-root c =
    let t = c.self.inside in
    no_root t.store.now t.nodes c.self.invariant
    (omega (arith, c.if-len-eq0.true, c.len.ensures, t.nodes.list.nodes.ok.0))

pub returns-clause-root : goal.returns-clause-root
returns-clause-root c =
    let t = c.self.inside in
    let some : 0 < length t.nodes.list.nodes.items =
    omega (arith, c.if-len-eq0.false, c.len.ensures, t.nodes.list.nodes.ok.0) in
    (search (rules, some), a_root t.store.now t.nodes c.self.invariant some)
