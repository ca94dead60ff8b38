use Rattle.std.proofs.Common.{sym, ◌∙◌, arith}
use Rattle.tree_nodes.proofs.TopsAdded.{none_said, one_tile, refused_tile}
use Rattle.tree_nodes.proofs.node_list.NodeList.push_written_tile.Goals as goal

pub returns-in-Ok : goal.returns-in-Ok
returns-in-Ok c =
    one_tile c.args.store.now c.args.limit c.args.self.now c.args.handed c.args.document
    c.args.tile c.args.own.now c.requires.own
    (none_said (λ p. p.now) c.implicit.result c.args.own.now.parts.implicit
    (sym c.is_some.ensures ∙ c.if-is_some.false) c.implicit.ensures.value)
    c.push_tile.new.self c.requires.sound c.requires.handed c.requires.there
    (omega (arith, c.content_count.ensures, c.if-content_count.false)) c.in-Ok.ensures.0
    c.in-Ok.ensures.1

pub returns-in-Err : goal.returns-in-Err
returns-in-Err c = (
  refused_tile c.args.store.now c.args.limit c.args.self.now c.args.handed c.args.document
      c.args.tile c.args.own.now c.requires.own
      (none_said (λ p. p.now) c.implicit.result c.args.own.now.parts.implicit
      (sym c.is_some.ensures ∙ c.if-is_some.false) c.implicit.ensures.value)
      c.in-Err.e c.in-Err.ensures.0,
  c.in-Err.ensures.1,
)
